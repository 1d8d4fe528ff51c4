-- A function but for one index, and its sums. Assumes nothing.
use Rattle.std.specs.Prelude.{ℕ, ◌+◌, ◌≤◌, ◌<◌, ◌≡◌, refl, not, eqb}
use Rattle.std.proofs.Common.{sym, ap, arith, eq-eqb, ne_eqb}
use Rattle.bounded.specs.Tests.{gate, gate_on, gate_off, gate_mono}
use Rattle.bounded.specs.Within.{Within, gate_none, gate_some}
use Rattle.bounded.specs.Sum.{sum_to, sum_le, sum_eq_at}

-- f j, and 0 where j is k
abbrev pub besides : (ℕ → ℕ) → ℕ → ℕ → ℕ
besides f k j = gate (not (eqb j k)) (f j)

module _ (f : ℕ → ℕ) (k j : ℕ) where
  own : j ≡ k → besides f k j ≡ 0
  own e = gate_off (not (eqb j k)) (f j) (ap not (eq-eqb j k e))

  other : ¬ (j ≡ k) → besides f k j ≡ f j
  other ne = gate_on (not (eqb j k)) (f j) (ap not (ne_eqb j k ne))

  -- for others
  pub besides_none : j ≡ k → besides f k j ≡ 0
  besides_none e = own e

  pub besides_is : ¬ (j ≡ k) → besides f k j ≡ f j
  besides_is ne = other ne

  -- as the code computes it: a branch for the one index
  pub besides_own : (b : ℕ) → j ≡ k → Within b (besides f k j) 0
  besides_own b e = gate_none b (f j) (eqb j k) (eq-eqb j k e)

  pub besides_other : (b r : ℕ) → ¬ (j ≡ k) → Within b (f j) r → Within b (besides f k j) r
  besides_other b r ne = gate_some b (f j) r (eqb j k) (ne_eqb j k ne)

pub ruleset besides_cases = (besides_own, besides_other)

-- the sum of all is that of the others and the one
pub sum_besides : (f : ℕ → ℕ) (n k : ℕ) → k < n → sum_to f n ≡ sum_to (besides f k) n + f k
sum_besides f n k l = omega (arith, sum_eq_at f (besides f k) n k l (λ j u ne. sym (other f k j ne)), own f k k refl)

pub sum_besides_le : (f g : ℕ → ℕ) (n k : ℕ) → ((j : ℕ) → j < n → f j ≤ g j) → sum_to (besides f k) n ≤ sum_to (besides g k) n
sum_besides_le f g n k h = sum_le (besides f k) (besides g k) n (λ j l. gate_mono (not (eqb j k)) (f j) (g j) (h j l))
