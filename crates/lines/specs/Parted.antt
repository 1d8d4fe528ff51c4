-- Bytes parted by a separator: fields by tabs, lines by newlines (docs/SPECIFICATION.md §8.1). Assumes nothing.
use Rattle.std.specs.Prelude.{Option, Some, None, true, false, ℕ, suc, ◌+◌, ◌-◌, ◌≤◌, ◌<◌, ◌≡◌, refl, cond, List, [], ◌∷◌, eqb, ltb, length, take, drop}
use Rattle.std.specs.List.{position_from}
use Rattle.std.proofs.Common.{sym, ◌∙◌, add-one, arith, ltb-true, ltb-false, length-drop, take_all}
use Rattle.std.proofs.lemmas.Iterator.Adapters.{position_from-zero}
use Rattle.lines.specs.Index.{index_of, index_after, index_position}
use Rattle.bounded.specs.Tests.{both}

abbrev pub on_first : ℕ → List (List ℕ) → List (List ℕ)
on_first b [] = (b ∷ []) ∷ []
on_first b (p ∷ l) = (b ∷ p) ∷ l

-- the parts before, between and after the separators: one more than there are separators
unfoldable pub parted : ℕ → List ℕ → List (List ℕ)
parted sep [] = [] ∷ []
parted sep (b ∷ l) = cond (eqb b sep) ([] ∷ parted sep l) (on_first b (parted sep l))

pub parted_not_none : (sep : ℕ) (l : List ℕ) → parted sep l ≡ [] → ⊥
unfolding parted
parted_not_none sep [] h = let z : ◌≡◌ {A = ℕ} 0 1 = cc in omega arith
parted_not_none sep (b ∷ l) h = both (eqb b sep) (λ e. first (simp e at h)) (λ e. other (parted sep l) (simp e at h))
  where
    first : {p : List ℕ} {l : List (List ℕ)} → p ∷ l ≡ [] → ⊥
    first h = let z : ◌≡◌ {A = ℕ} 0 1 = cc in omega arith

    other : (l : List (List ℕ)) → on_first b l ≡ [] → ⊥
    other [] h = first h
    other (p ∷ l) h = first h

-- with no separator there is one part
pub parted_none : (sep : ℕ) (l : List ℕ) → length l ≤ index_of sep l → parted sep l ≡ l ∷ []
unfolding parted index_of index_after
parted_none sep [] h = refl
parted_none sep (b ∷ l) h =
    both (eqb b sep) (λ e. absurd (omega (arith, simp e at h)))
    (λ e. let k : length l ≤ index_of sep l = omega (arith, simp e at h) in simp (e, parted_none sep l k))

-- the first separator ends the first part
pub parted_some : (sep : ℕ) (l : List ℕ) → index_of sep l < length l
    → parted sep l ≡ take (index_of sep l) l ∷ parted sep (drop (suc (index_of sep l)) l)
unfolding parted index_of index_after
parted_some sep [] h = absurd (omega arith)
parted_some sep (b ∷ l) h =
    both (eqb b sep) (λ e. simp e)
    (λ e. let k : index_of sep l < length l = omega (arith, simp e at h) in simp (e, parted_some sep l k))

-- the first place of b in l, and none where b is not in l
abbrev pub Found : ℕ → List ℕ → Option ℕ → Type 0
Found b l r = r ≡ position_from (λ x. eqb x b) 0 l

-- the same of a place that is known by number
pub record Place (b : ℕ) (l : List ℕ) (r : ℕ) : Type 0 where
  pub is : r ≡ index_of b l
  pub within : r < length l

found_index : (b : ℕ) (l : List ℕ) → position_from (λ x. eqb x b) 0 l ≡ cond (ltb (index_of b l) (length l)) (Some (index_of b l)) None
found_index b l = rw (index_position b l) (sym (position_from-zero (λ x. eqb x b) l))

pub found_some : (b : ℕ) (l : List ℕ) (r : ℕ) → Found b l (Some r) → Place b l r
found_some b l r e = both (ltb (index_of b l) (length l)) (λ t. some t (e ∙ found_index b l)) (λ t. none t (e ∙ found_index b l))
  where
    some : ltb (index_of b l) (length l) ≡ true → Some r ≡ cond (ltb (index_of b l) (length l)) (Some (index_of b l)) None → Place b l r
    some t f =
        let g : Some r ≡ Some (index_of b l) = simp t at f in
        let i : r ≡ index_of b l = cc in
        record { is = i; within = omega (arith, i, ltb-true _ _ t) }

    none : ltb (index_of b l) (length l) ≡ false → Some r ≡ cond (ltb (index_of b l) (length l)) (Some (index_of b l)) None → Place b l r
    none t f = let g : Some r ≡ None = simp t at f in let z : ◌≡◌ {A = ℕ} 0 1 = cc in absurd (omega arith)

pub found_none : (b : ℕ) (l : List ℕ) → Found b l None → length l ≤ index_of b l
found_none b l e = both (ltb (index_of b l) (length l)) (λ t. some t (e ∙ found_index b l)) (λ t. ltb-false _ _ t)
  where
    some : ltb (index_of b l) (length l) ≡ true → None ≡ cond (ltb (index_of b l) (length l)) (Some (index_of b l)) None → length l ≤ index_of b l
    some t f = let g : None ≡ Some (index_of b l) = simp t at f in let z : ◌≡◌ {A = ℕ} 0 1 = cc in absurd (omega arith)

-- with none there is one part
pub parted_whole : (sep : ℕ) (l : List ℕ) → Found sep l None → parted sep l ≡ l ∷ []
parted_whole sep l h = parted_none sep l (found_none sep l h)

-- the first one ends the first part
pub parted_at : (sep : ℕ) (l : List ℕ) (r : ℕ) → Found sep l (Some r) → parted sep l ≡ take r l ∷ parted sep (drop (r + 1) l)
parted_at sep l r h =
    let p = found_some sep l r h in rw (add-one, p.is) (parted_some sep l (omega (arith, p.is, p.within)))

-- a slice from place a on
pub tail_is : (l : List ℕ) (a : ℕ) → take (length l - a) (drop a l) ≡ drop a l
tail_is l a = take_all (length l - a) (drop a l) (omega (arith, length-drop a l))
