-- A table that is read row by row into 48 places. Assumes nothing.
use Rattle.std.specs.Prelude.{ℕ, suc, ◌+◌, ◌*◌, ◌<◌, ◌≡◌, List, [], ◌∷◌, ◌++◌, length, take, set}
use Rattle.std.proofs.Common.{arith, length-set, length-append, length-take, take_at}
use Rattle.std.proofs.lemmas.List.Edits.{sets-eq}

-- the words w with the numbers of row i in their places
abbrev pub words_with : List ℕ → ℕ → ℕ → ℕ → ℕ → List ℕ
words_with w i c t d = set (set (set w (3 * i) c) (3 * i + 1) t) (3 * i + 2) d

pub words_places : (w : List ℕ) (i c t d : ℕ) → length (words_with w i c t d) ≡ length w
words_places w i c t d = simp length-set

-- after k rows, the words of one row more
pub words_more : (w : List ℕ) (k c t d : ℕ) → k < 16 → length w ≡ 48
    → take (3 * (k + 1)) (words_with w k c t d) ≡ take (3 * k) w ++ c ∷ t ∷ d ∷ []
words_more w k c t d h e =
    let q : 3 * k + 1 ≡ suc (3 * k) = omega arith in
    let r : 3 * k + 2 ≡ suc (suc (3 * k)) = omega arith in
    rw (q, r, sets-eq (c ∷ t ∷ d ∷ []) w (3 * k) (omega arith))
    (take_at (take (3 * k) w ++ c ∷ t ∷ d ∷ []) _ (3 * (k + 1)) (simp (length-append, length-take) (omega arith)))
