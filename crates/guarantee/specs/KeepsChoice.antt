-- A choice in force, and the jobs that lose budget while it runs (docs/SPECIFICATION.md §5.2, §5.5). Assumes nothing.
use Rattle.std.specs.Prelude.{ℕ, ◌≤◌, ◌<◌, ◌≡◌, false, ◌&&◌, eqb}
use Rattle.std.proofs.Math.Bool.{true}
use Rattle.std.proofs.Common.{⊎_elim}
use Rattle.std.proofs.Math.Dec.{ltb}
use borrow.Author.Tests.{ltb-true, eqb-false, lt-ltb, le-ltb, eq-eqb, ne_eqb}
use Rattle.bounded.specs.Tests.{both, and-true}
use Rattle.session.specs.declared.Session.{Session}
use Rattle.session.specs.Reading.{idle, job_at, waits, ahead}
use Rattle.session.specs.Sound.{sound}
use Rattle.session.specs.Facts.{Running, Choice, facts_of}

pub in_force : (s : Session) → sound s ≡ true → eqb s.span 0 ≡ false → Choice s
in_force s h e = ⊎_elim (λ z. absurd (eqb-false s.span 0 e z)) (λ c. c) (facts_of s h).choice

pub running : (s : Session) → Choice s → eqb s.chosen idle ≡ false → Running s
running s c e = ⊎_elim (λ z. absurd (eqb-false s.chosen idle e z)) (λ r. r) c.runs

-- ---- the jobs that lose budget while c runs

module _ (s : Session) (c j : ℕ) where
  pub ahead_waits : ahead s c j ≡ true → waits s j ≡ true
  unfolding ahead
  ahead_waits h = (and-true (waits s j) _ h).0

  pub ahead_earlier : (c ≡ idle → ⊥) → ahead s c j ≡ true → (job_at s j).due < (job_at s c).due
  unfolding ahead
  ahead_earlier ne h =
      let k : (waits s j && ltb (job_at s j).due (job_at s c).due) ≡ true = simp (ne_eqb c idle ne) at h in
      ltb-true _ _ (and-true (waits s j) _ k).1

  pub earlier_ahead : waits s j ≡ true → (job_at s j).due < (job_at s c).due → ahead s c j ≡ true
  unfolding ahead
  earlier_ahead w h = both (eqb c idle) (λ e. simp (w, e)) (λ e. simp (w, e) (lt-ltb _ _ h))

  pub idle_ahead : c ≡ idle → waits s j ≡ true → ahead s c j ≡ true
  unfolding ahead
  idle_ahead e w = simp (w, eq-eqb c idle e)

  pub later_not : (c ≡ idle → ⊥) → (job_at s c).due ≤ (job_at s j).due → ahead s c j ≡ false
  unfolding ahead
  later_not ne h =
      simp (ne_eqb c idle ne, le-ltb (job_at s j).due (job_at s c).due h) (both (waits s j) (λ e. simp e) (λ e. simp e))
