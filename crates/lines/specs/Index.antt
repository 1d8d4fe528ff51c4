-- The first place of a byte in a list. Assumes nothing.
use Rattle.std.specs.Prelude.{ℕ, suc, ◌≡◌, refl, Bool, true, false, List, [], ◌∷◌, eqb}
use Rattle.std.specs.List.{position_or_len}
use Rattle.std.proofs.Common.{arith}
use Rattle.std.proofs.lemmas.List.Recursion.{is_position_or_len}
use Rattle.bounded.specs.Tests.{both}

abbrev pub index_after : Bool → ℕ → ℕ
index_after true k = 0
index_after false k = suc k

-- the length of the list where the byte is not in it
unfoldable pub index_of : ℕ → List ℕ → ℕ
index_of b [] = 0
index_of b (x ∷ l) = index_after (eqb x b) (index_of b l)

-- as the library counts it
pub index_position : (b : ℕ) (l : List ℕ) → index_of b l ≡ position_or_len (λ x. eqb x b) l
unfolding index_of
index_position b =
    is_position_or_len (index_of b) (λ x. eqb x b) refl (λ x l. both (eqb x b) (λ e. simp e) (λ e. simp e (omega arith)))
