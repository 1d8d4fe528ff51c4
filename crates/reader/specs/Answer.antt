-- The cases of the code of src/lib.rt. Assumes nothing.
use Rattle.std.specs.Prelude.{ℕ, ◌≤◌, ◌<◌, ◌≡◌, Bool, false, List, map, length, take, drop, Some, None}
use Rattle.std.specs.Bool.{then_some}
use Rattle.std.proofs.Math.Path.{sym, ap}
use Rattle.std.proofs.Common.{◌∙◌, true≢false, arith, take_at}
use Rattle.std.proofs.Math.Bool.{true}
use Rattle.std.proofs.lemmas.List.{length-map}
use Rattle.bounded.specs.Tests.{both}
use Rattle.decimal.specs.Buffer.{overlay, Wrote}
use Rattle.wording.specs.declared.Parts.{Parts}
use Rattle.wording.specs.Explanation.{parts_of, held_in}
use Rattle.wording.specs.Layout.{held_parts}
use Rattle.wording.specs.Text.{text_of}
use Rattle.reader.specs.declared.parts.Found.{Found}
use Rattle.reader.specs.Reading.{number_in, jobs_in, explanation_from, explanation_in, same, is_text, reading_of}
use Rattle.reader.specs.Back.{read_back}
use Rattle.reader.specs.Same.{same_true, same_self}
use Rattle.reader.specs.Fitted.{cut_job, cut_all, cut_fits, fits_cut}
use Rattle.reader.specs.Took.{Took, number_at}
use Rattle.reader.specs.Code.{jobs_length}
use Rattle.reader.specs.Theorems.{text_is, is_text_lem}

-- ---- `tells`

-- what was written from the start on is what stands in front
front_is : (m e : ℕ) (t before after : List ℕ) → Wrote m t before after 0 e → take e after ≡ t
unfolding overlay
front_is m e t before after w = rw w.buffer (take_at t _ e (omega (arith, w.place)))

pub tells_is : (m e : ℕ) (t before after text : List ℕ) (b : Bool) → Wrote m t before after 0 e
    → (b ≡ true → take e after ≡ text) × (take e after ≡ text → b ≡ true) → b ≡ same t text
tells_is m e t before after text b w h =
    let q = front_is m e t before after w in
    both b
    (λ y. y ∙ sym (ap (same t) (sym (h.0 y) ∙ q) ∙ same_self t))
    (λ n. n ∙ both (same t text) (λ y. absurd (true≢false (sym (h.1 (q ∙ same_true t text y)) ∙ n))) (λ d. sym d))

-- ---- `read`: the text of the parts that were read decides

pub count_few : (n : ℕ) (t : List ℕ) (p : Parts) → n ≤ 16 → p ≡ parts_of (cut_all (explanation_from n t)) → p.count ≤ 16
unfolding cut_all explanation_from
count_few n t p h e =
    let c : p.count ≡ length (map cut_job (jobs_in n t).part) = ap (λ (q : Parts). q.count) e in
    omega (arith, length-map (jobs_in n t).part cut_job, jobs_length n t)

none_read : (l : List ℕ) → is_text l ≡ false → None ≡ reading_of l
unfolding reading_of
none_read l n = simp n

-- so many jobs are read as the first line says
jobs_counted : (l : List ℕ) → length (explanation_in l).jobs ≡ number_in (drop 14 l)
unfolding explanation_in explanation_from
jobs_counted l = jobs_length _ _

module _ (l : List ℕ) (n : Found ℕ) (r : Took (number_at (drop 14 l)) l n.value n.at) where
  pub read_many : 16 < n.value → None ≡ reading_of l
  unfolding number_at
  read_many h =
      both (is_text l)
      (λ y. let f = (is_text_lem l y).0 in absurd (omega (arith, r.part, f.few, jobs_counted l)))
      (λ m. none_read l m)

  module _ (at : ℕ) (p : Parts) (b : Bool) (h : n.value ≤ 16) (q : drop at l ≡ drop 2 (drop n.at l))
      (x : p ≡ parts_of (cut_all (explanation_from n.value (drop at l)))) (s : b ≡ same (text_of (held_in p)) l) where
    counted : number_in (drop 14 l) ≡ n.value
    unfolding number_at
    counted = omega (arith, r.part)

    all_read : p ≡ parts_of (cut_all (explanation_in l))
    unfolding number_at explanation_in
    all_read = x ∙ rw (counted, q, r.rest)

    compared : b ≡ same (text_of (cut_all (explanation_in l))) l
    compared = s ∙ rw (all_read, held_parts (cut_all (explanation_in l)))

    pub read_same : b ≡ true → Some p ≡ reading_of l
    unfolding reading_of
    read_same y =
        let e = explanation_in l in
        let t : text_of (cut_all e) ≡ l = same_true _ _ (sym compared ∙ y) in
        let k : e ≡ cut_all e = sym (ap explanation_in t) ∙ read_back (cut_all e) in
        let f = cut_fits e (omega (arith, jobs_counted l, counted)) in
        let i : is_text l ≡ true = sym (ap is_text t) ∙ text_is (cut_all e) f in
        simp i (ap Some (all_read ∙ ap parts_of (sym k)))

    pub read_other : b ≡ false → None ≡ reading_of l
    read_other d =
        both (is_text l)
        (λ y.
        let t = is_text_lem l y in
        let g : same (text_of (cut_all (explanation_in l))) l ≡ true = rw (fits_cut _ t.0, t.1) (same_self l) in
        absurd (true≢false (sym g ∙ sym compared ∙ d)))
        (λ m. none_read l m)

    -- the parts, if the comparison says so
    pub read_compared : then_some b p ≡ reading_of l
    read_compared = both b (λ y. simp y (read_same y)) (λ n. simp n (read_other n))

pub ruleset read_cases = (read_many, read_compared)
