-- The numbers of a seed (docs/WORKLOAD.md). Assumes nothing.
use Rattle.std.specs.Prelude.{◌≡◌, ℕ, zero, suc, ◌+◌, ◌*◌, ◌%◌, ◌^◌, ◌<◌, List, [], ◌∷◌}
use Rattle.std.proofs.Common.{arith}

-- the number after x (a linear congruential generator)
unfoldable pub next_of : ℕ → ℕ
next_of x = (1664525 * x + 1013904223) % 4294967296

-- the k numbers after x
unfoldable pub numbers_from : ℕ → ℕ → List ℕ
numbers_from x zero = []
numbers_from x (suc k) = next_of x ∷ numbers_from (next_of x) k

-- ---- laws

pub next_narrow : (x : ℕ) → next_of x < 4294967296
unfolding next_of
next_narrow x = omega arith

-- ---- the code

pub next_is : (x y r : ℕ) → y ≡ 1664525 * x % 2 ^ 32 → r ≡ (y + 1013904223) % 2 ^ 32 → r ≡ next_of x
unfolding next_of
next_is x y r e f = omega arith
