-- The jobs that lose budget while a choice runs, as the code tests them one by one. Assumes nothing.
use Rattle.std.specs.Prelude.{ℕ, ◌≤◌, ◌<◌, ◌≡◌, Bool, true, false, ◌&&◌, ◌||◌, ltb, eqb}
use Rattle.std.proofs.Common.{ap, arith}
use Rattle.std.proofs.Math.Logic.{dite}
use Rattle.std.proofs.Math.Decide.{ℕ_discrete}
use borrow.Author.Tests.{lt-ltb, le-ltb, eq-eqb, ne_eqb}
use Rattle.session.specs.declared.Job.{Job}
use Rattle.session.specs.declared.Session.{Session}
use Rattle.session.specs.Reading.{idle, job_at, waits, ahead}

-- j waits, and c is idle or due later
unfoldable pub ahead_by : Job → ℕ → ℕ → Bool
ahead_by j c due = ltb 0 j.left && (eqb c idle || ltb j.due due)

-- c's deadline, where c is a row
pub record DueOf (s : Session) (c due : ℕ) : Type 0 where
  pub is : (c ≡ idle → ⊥) → due ≡ (job_at s c).due

pub ahead_is : (s : Session) (c due : ℕ) → DueOf s c due → (i : ℕ) → ahead_by (job_at s i) c due ≡ ahead s c i
unfolding ahead waits ahead_by
ahead_is s c due d i =
    dite (ℕ_discrete c idle) (λ e. simp (eq-eqb c idle e))
    (λ ne. simp (ne_eqb c idle ne) (ap (λ (x : ℕ). ltb 0 (job_at s i).left && ltb (job_at s i).due x) (d.is ne)))

module _ (j : Job) (c due : ℕ) where
  pub ahead_none : j.left < 1 → false ≡ ahead_by j c due
  unfolding ahead_by
  ahead_none h = simp (le-ltb 0 j.left (omega arith))

  pub ahead_idle : 1 ≤ j.left → c ≡ idle → true ≡ ahead_by j c due
  unfolding ahead_by
  ahead_idle h e = simp (lt-ltb 0 j.left (omega arith), eq-eqb c idle e)

  pub ahead_row : 1 ≤ j.left → (c ≡ idle → ⊥) → ltb j.due due ≡ ahead_by j c due
  unfolding ahead_by
  ahead_row h ne = simp (lt-ltb 0 j.left (omega arith), ne_eqb c idle ne)

pub ruleset ahead_cases = (ahead_none, ahead_idle, ahead_row)
