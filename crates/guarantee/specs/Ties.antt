-- The ledger follows the session from call to call (docs/SPECIFICATION.md §6.1). Assumes nothing.
use Rattle.std.specs.Prelude.{ℕ, ◌≤◌, ◌≡◌, List}
use Rattle.std.proofs.Math.Path.{refl}
use Rattle.std.proofs.Common.{ap, arith}
use Rattle.table.specs.Rows.{tasks_of}
use Rattle.table.specs.Verdict.{opinion_of}
use Rattle.session.specs.declared.Job.{Job}
use Rattle.session.specs.declared.Session.{Session}
use Rattle.session.specs.Reading.{job_at}
use Rattle.session.specs.Start.{fresh_of, start_of, start_fresh}
use Rattle.guarantee.specs.Ledger.{Ledger, empty}
use Rattle.guarantee.specs.KeepsFresh.{fresh_job}
use Rattle.guarantee.specs.TiesRow.{Follows, nothing}

-- the clocks agree, so do the chosen rows where a choice is in force, and the entries of each row follow its job
pub record Tied (l : List ℕ) (g : Ledger) (s : Session) : Type 0 where
  pub clock : g.clock ≡ s.clock
  pub chosen : 1 ≤ s.span → g.chosen ≡ s.chosen
  pub rows : (i : ℕ) → Follows (tasks_of l) i (job_at s i) g.entries

-- ---- a fresh session: no entry, and no job

pub tied_fresh : (l : List ℕ) → (opinion_of l).number ≡ 0 → (s₀ : Session) → Tied l empty (start_of s₀ l)
unfolding fresh_of
tied_fresh l e s₀ =
    rw (start_fresh s₀ l e)
    (record {
      clock = refl;
      chosen = λ force. absurd (omega arith);
      rows = λ i. nothing (ap (λ (j : Job). j.left) (fresh_job l (opinion_of l).first i));
    })
