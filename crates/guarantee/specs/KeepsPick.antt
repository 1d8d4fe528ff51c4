-- What is chosen may run for a tick at least (docs/SPECIFICATION.md §5.4). Assumes nothing.
use Rattle.std.specs.Prelude.{ℕ, ◌≤◌, ◌<◌, ◌≡◌, refl, ◌&&◌, ◌||◌, List, eqb}
use Rattle.std.proofs.Common.{sym, ◌∙◌, true≢false, arith}
use Rattle.std.proofs.Math.Bool.{true, not}
use Rattle.std.proofs.Math.Logic.{inl, inr}
use Rattle.std.proofs.Math.Dec.{ltb}
use borrow.Author.Tests.{eqb-true, ltb-true}
use Rattle.bounded.specs.Tests.{both, and-true, so_then}
use Rattle.bounded.specs.All.{all_at}
use Rattle.session.specs.declared.Session.{Session}
use Rattle.session.specs.Reading.{idle, job_at, waits, ahead}
use Rattle.session.specs.Order.{head_of, permits, near, candidate, idles}
use Rattle.session.specs.First.{none_waits, head_waits, head_least}
use Rattle.session.specs.Choose.{pick_of}
use Rattle.session.specs.Calls.{changed}
use Rattle.session.specs.Facts.{Choice}
use Rattle.guarantee.specs.KeepsChoice.{ahead_waits, ahead_earlier}
use Rattle.guarantee.specs.Picked.{pick_case}

-- c may be chosen for n ticks
abbrev pub May : Session → ℕ → ℕ → Type 0
May s c n = Choice (changed s s.clock s.jobs c n)

module _ (s : Session) (few : s.count ≤ 16) where
  row_may : (c : ℕ) → c < s.count → waits s c ≡ true
      → ((j : ℕ) → j < s.count → ahead s c j ≡ true → 1 ≤ (job_at s j).budget) → May s c 1
  unfolding waits ahead
  row_may c l w h = record {
    some = omega arith;
    small = omega arith;
    runs = inr (record { known = l; waiting = w; within = ltb-true 0 (job_at s c).left w });
    affords = h;
  }

  idle_may : ((j : ℕ) → j < s.count → ahead s idle j ≡ true → 1 ≤ (job_at s j).budget) → May s idle 1
  unfolding waits ahead
  idle_may h = record { some = omega arith; small = omega arith; runs = inl refl; affords = h }

  permits_at : (c : ℕ) → permits s c ≡ true → (j : ℕ) → j < s.count → ahead s c j ≡ true → 1 ≤ (job_at s j).budget
  unfolding permits
  permits_at c h j l a =
      ltb-true 0 (job_at s j).budget
      (so_then (ahead s c j) _ (all_at (λ j. not (ahead s c j) || ltb 0 (job_at s j).budget) s.count h j l) a)

  -- no job loses budget while the head runs
  head_may : head_of s < s.count → May s (head_of s) 1
  head_may h =
      row_may (head_of s) h (head_waits s h)
      (λ j l a. absurd
      (omega (arith, head_least s h j l (ahead_waits s (head_of s) j a), ahead_earlier s (head_of s) j (λ e. omega arith) a)))

  candidate_may : head_of s < s.count → (c : ℕ) → c < s.count → candidate s c ≡ true → May s c 1
  unfolding candidate
  candidate_may h c l e =
      let a = and-true (waits s c) _ e in
      both (eqb c (head_of s)) (λ q. rw (eqb-true c (head_of s) q) (head_may h))
      (λ q.
      let b : (ltb 0 (job_at s (head_of s)).budget && (permits s c && near s c)) ≡ true = simp q at a.1 in
      row_may c l a.0 (permits_at c (and-true (permits s c) _ (and-true (ltb 0 (job_at s (head_of s)).budget) _ b).1).0))

  idles_permits : idles s ≡ true → permits s idle ≡ true
  unfolding idles
  idles_permits e = (and-true (eqb s.kind 1) (permits s idle) e).1

  pub pick_may : (w : List ℕ) → May s (pick_of s w) 1
  pick_may =
      pick_case s (λ c. May s c 1) head_may candidate_may (λ b. idle_may (permits_at idle (idles_permits b)))
      (λ b. idle_may (λ j l c. absurd (true≢false (sym (ahead_waits s idle j c) ∙ none_waits s b j l))))
