-- The test whether two lists have the same bytes is right. Assumes nothing.
use Rattle.std.specs.Prelude.{ℕ, ◌≡◌, refl, true, List, [], ◌∷◌, eqb}
use Rattle.std.proofs.lemmas.Bool.{false≢true}
use Rattle.std.proofs.Common.{eqb-true, eq-eqb}
use Rattle.bounded.specs.Tests.{and-true}
use Rattle.reader.specs.Reading.{same}

pub same_true : (l m : List ℕ) → same l m ≡ true → l ≡ m
unfolding same
same_true [] [] e = refl
same_true [] (b ∷ m) e = absurd (false≢true e)
same_true (a ∷ l) [] e = absurd (false≢true e)
same_true (a ∷ l) (b ∷ m) e =
    let q = and-true (eqb a b) (same l m) e in
    let h = eqb-true a b q.0 in
    let t = same_true l m q.1 in
    rw (h, t)

pub same_self : (l : List ℕ) → same l l ≡ true
unfolding same
same_self [] = refl
same_self (a ∷ l) = simp (eq-eqb a a refl, same_self l)
