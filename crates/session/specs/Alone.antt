-- Where the head is the only candidate (docs/SPECIFICATION.md §5.4). Assumes nothing.
use Rattle.std.specs.Prelude.{ℕ, ◌<◌, ◌≡◌, refl, true, ◌||◌, eqb}
use Rattle.std.proofs.Common.{sym, ◌∙◌}
use Rattle.std.proofs.Math.Bool.{false, not, true≢false}
use native.Mathlib.Omega.{arith}
use Rattle.std.proofs.Math.Dec.{ltb}
use borrow.Author.Tests.{le-ltb, eq-eqb, ne_eqb}
use Rattle.bounded.specs.Tests.{both, gate, gate_on, gate_off}
use Rattle.bounded.specs.Sum.{sum_eq_at, sum_zero}
use Rattle.bounded.specs.All.{all_at}
use Rattle.session.specs.declared.Session.{Session}
use Rattle.session.specs.Reading.{idle, job_at, waits, ahead}
use Rattle.session.specs.Order.{head_of, permits, candidate, idles, candidates}
use Rattle.session.specs.First.{head_waits}

module _ (s : Session) (h : head_of s < s.count) where
  -- where no other row is one, nor idle, there is one in all
  pub only_head : ((i : ℕ) → i < s.count → candidate s i ≡ eqb i (head_of s)) → idles s ≡ false → candidates s ≡ 1
  unfolding candidates
  only_head only no-idle =
      omega (
        arith,
        sum_eq_at (λ i. gate (candidate s i) 1) (λ i. 0) s.count (head_of s) h
            (λ i l ne. gate_off (candidate s i) 1 (only i l ∙ ne_eqb i (head_of s) ne)),
        sum_zero (λ i. 0) s.count (λ i l. refl),
        gate_on (candidate s (head_of s)) 1 (only (head_of s) h ∙ eq-eqb (head_of s) (head_of s) refl),
        gate_off (idles s) 1 no-idle,
      )

  -- a row that does not wait is none
  pub only_waiting : (i : ℕ) → (waits s i ≡ true → candidate s i ≡ eqb i (head_of s)) → candidate s i ≡ eqb i (head_of s)
  unfolding candidate
  only_waiting i e =
      both (waits s i) e (λ w. simp (w, ne_eqb i (head_of s) (λ q. true≢false (sym (head_waits s h) ∙ rw q at w))))

-- where its budget is spent
module _ (s : Session) (h : head_of s < s.count) (spent : (job_at s (head_of s)).budget ≡ 0) where
  none_left : ltb 0 (job_at s (head_of s)).budget ≡ false
  none_left = le-ltb 0 (job_at s (head_of s)).budget (omega arith)

  pub only_row : (i : ℕ) → i < s.count → candidate s i ≡ eqb i (head_of s)
  unfolding candidate
  only_row i l = only_waiting s h i (λ w. simp (w, none_left) (both (eqb i (head_of s)) (λ e. simp e) (λ e. simp e)))

  not_permitted : permits s idle ≡ false
  unfolding permits ahead
  not_permitted =
      let no : (not (ahead s idle (head_of s)) || ltb 0 (job_at s (head_of s)).budget) ≡ false = simp (head_waits s h, none_left) in
      both (permits s idle)
      (λ p. absurd (true≢false (sym (all_at (λ j. not (ahead s idle j) || ltb 0 (job_at s j).budget) s.count p (head_of s) h) ∙ no)))
      (λ p. p)

  pub not_idle_lem : idles s ≡ false
  unfolding idles
  not_idle_lem = both (eqb s.kind 1) (λ e. simp e not_permitted) (λ e. simp e)

  pub one_candidate : candidates s ≡ 1
  one_candidate = only_head s h only_row not_idle_lem
