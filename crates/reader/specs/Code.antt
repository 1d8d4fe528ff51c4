-- The cases of the code of src/parts.rt. Assumes nothing.
use Rattle.std.specs.Prelude.{ℕ, zero, suc, ◌+◌, ◌-◌, ◌*◌, ◌≤◌, ◌<◌, ◌^◌, ◌≡◌, false, length, get_or, drop, set, Bool, None, Option, Some}
use Rattle.std.proofs.Math.Path.{refl, sym, ap}
use Rattle.std.proofs.Common.{◌∙◌, add-one, arith, drop-cons}
use Rattle.std.proofs.Math.Bool.{true, and-false}
use mathlib.Core.List.{List, [], ◌∷◌, ◌++◌, map, map-append}
use Rattle.std.proofs.lemmas.List.{length-map}
use Rattle.std.proofs.Math.ListN.{drop_of_length-le}
use Rattle.std.proofs.Math.Seq.{drop-length}
use Rattle.std.proofs.Math.Logic.{◌⊎◌, ⊎_elim}
use borrow.Author.Tests.{eq-eqb, ne_eqb, le-leb, lt-leb}
use Rattle.decimal.specs.Number.{is_digit, value_from}
use Rattle.wording.specs.declared.Held.{Held}
use Rattle.wording.specs.declared.Parts.{Parts}
use Rattle.wording.specs.declared.Cause.{Cause}
use Rattle.wording.specs.declared.Cause.TheVariants.{Remaining, Word, NoWord, Nothing}
use Rattle.wording.specs.Explanation.{laid, parts_of, no_parts}
use Rattle.wording.specs.Layout.{laid_next}
use Rattle.reader.specs.declared.parts.Found.{Found}
use Rattle.reader.specs.Reading.{digits, after_digits, number_in, Part, past_holds_lem, candidate_in, job_in, jobs_in, brittle_in, chosen_in, decided_in, cause_in, explanation_from}
use Rattle.reader.specs.Fitted.{cut, cut_job, cut_all}
use Rattle.reader.specs.Took.{Took, number_at, job_at, jobs_at, brittle_at, chosen_at, decided_at}

-- ---- a number

-- v is the value of the digits from place `at` up to i, cut
pub record Digits (l : List ℕ) (at v i : ℕ) : Type 0 where
  pub small : v < 2 ^ 64
  pub value : cut (value_from v (digits (drop i l))) ≡ cut (number_in (drop at l))
  pub rest : after_digits (drop i l) ≡ after_digits (drop at l)

-- a value that is cut before further digits gives no other in the end
cut_first : (v : ℕ) (l : List ℕ) → cut (value_from (cut v) l) ≡ cut (value_from v l)
unfolding value_from
cut_first v [] = omega arith
cut_first v (b ∷ l) =
    let e : cut (10 * cut v + (b - 48)) ≡ cut (10 * v + (b - 48)) = omega arith in
    sym (cut_first (10 * cut v + (b - 48)) l) ∙ ap (λ (n : ℕ). cut (value_from n l)) e ∙ cut_first (10 * v + (b - 48)) l

module _ (l : List ℕ) (at v i : ℕ) (r : Digits l at v i) where
  -- no digit stands in front any more
  ended : (e : ℕ) → digits (drop i l) ≡ [] → after_digits (drop i l) ≡ drop e l → Took (number_at (drop at l)) l v e
  unfolding number_at value_from
  ended e d a =
      let c : cut v ≡ cut (number_in (drop at l)) = ap (λ (t : List ℕ). cut (value_from v t)) (sym d) ∙ r.value in
      record { part = omega (arith, r.small); rest = sym a ∙ r.rest }

  pub digits_done : length l ≤ i → Took (number_at (drop at l)) l v (length l)
  unfolding digits after_digits
  digits_done h = let e = drop_of_length-le l h in ended (length l) (ap digits e) (ap after_digits e ∙ sym (drop-length l))

  module _ (h : i < length l) where
    next : drop i l ≡ get_or l i 0 ∷ drop (i + 1) l
    next = rw (add-one, drop-cons l i 0)

    no_digit : is_digit (get_or l i 0) ≡ false → Took (number_at (drop at l)) l v i
    unfolding digits after_digits
    no_digit n = ended i (rw next (simp n)) (rw next (simp n))

    pub digits_end : (get_or l i 0 < 48) ⊎ ((48 ≤ get_or l i 0) × (57 < get_or l i 0)) → Took (number_at (drop at l)) l v i
    digits_end =
        ⊎_elim (λ k. no_digit (simp (lt-leb 48 (get_or l i 0) k)))
        (λ k. no_digit (simp (lt-leb (get_or l i 0) 57 k.1, and-false)))

    pub digits_next : (w : ℕ) → 48 ≤ get_or l i 0 → get_or l i 0 ≤ 57 → w ≡ cut (10 * v + (get_or l i 0 - 48)) → Digits l at w (i + 1)
    unfolding digits after_digits value_from
    digits_next w a b e =
        let y : is_digit (get_or l i 0) ≡ true = simp (le-leb _ _ a, le-leb _ _ b) in
        record {
          small = omega arith;
          value = rw e (cut_first (10 * v + (get_or l i 0 - 48)) (digits (drop (i + 1) l)) ∙ (simp (next, y) at r.value));
          rest = simp (next, y) at r.rest;
        }

pub ruleset digits_cases = (digits_done, digits_end, digits_next)

-- ---- the end of a job's line

module _ (l t : List ℕ) (b : ℕ) where
  pub holds_yes : (e : ℕ) → b ≡ get_or t 0 0 → b ≡ 32 → drop e l ≡ drop 24 t → drop e l ≡ past_holds_lem t
  unfolding past_holds_lem
  holds_yes e g y q = simp (← g, eq-eqb b 32 y) q

  pub holds_no : b ≡ get_or t 0 0 → (b ≡ 32 → ⊥) → t ≡ past_holds_lem t
  unfolding past_holds_lem
  holds_no g n = simp (← g, ne_eqb b 32 n)

pub ruleset holds_cases = (holds_yes, holds_no)

module _ (l t : List ℕ) (b e : ℕ) where
  pub candidate_yes : b ≡ get_or t 2 0 → b ≡ 99 → drop e l ≡ drop 13 t → Took (candidate_in t) l true e
  unfolding candidate_in
  candidate_yes g y q = simp (← g, eq-eqb b 99 y) (record { part = refl; rest = q })

  pub candidate_no : b ≡ get_or t 2 0 → (b ≡ 99 → ⊥) → drop e l ≡ drop 19 t → Took (candidate_in t) l false e
  unfolding candidate_in
  candidate_no g n q = simp (← g, ne_eqb b 99 n) (record { part = refl; rest = q })

pub ruleset candidate_cases = (candidate_yes, candidate_no)

-- ---- jobs

pub job_is : (l t : List ℕ) (x y z : Found ℕ) (e : ℕ) (c : Found Bool)
    → Took (number_at (drop 4 t)) l x.value x.at
    → Took (number_at (drop 9 (drop x.at l))) l y.value y.at
    → Took (number_at (drop 9 (drop y.at l))) l z.value z.at
    → drop e l ≡ past_holds_lem (drop z.at l)
    → Took (candidate_in (drop e l)) l c.value c.at
    → Took (job_at t) l (record { row = x.value; due = y.value; budget = z.value; candidate = c.value }) c.at
unfolding job_at job_in number_at
job_is l t x y z e c hx hy hz he hc = record {
  part = simp (hx.part, hy.part, hz.part, hc.part, he, hz.rest, hy.rest, hx.rest);
  rest = simp (hc.rest, he, hz.rest, hy.rest, hx.rest);
}

-- one more job after n
jobs_more : (n : ℕ) (t : List ℕ)
    → jobs_in (suc n) t ≡ record { part = (jobs_in n t).part ++ (job_in (jobs_in n t).rest).part ∷ []; rest = (job_in (jobs_in n t).rest).rest }
unfolding jobs_in
jobs_more zero t = refl
jobs_more (suc n) t =
    ap (λ (q : Part (List Held)). record { part = (job_in t).part ∷ q.part; rest = q.rest }) (jobs_more n (job_in t).rest)

pub jobs_length : (n : ℕ) (t : List ℕ) → length (jobs_in n t).part ≡ n
unfolding jobs_in
jobs_length zero t = refl
jobs_length (suc n) t = ap suc (jobs_length n (job_in t).rest)

-- the first i jobs stand in their places
pub jobs_start : (l : List ℕ) (at : ℕ) (p : Parts) → p ≡ no_parts → Took (jobs_at 0 (drop at l)) l p.jobs at
unfolding jobs_at jobs_in
jobs_start l at p e = record { part = ap (λ (q : Parts). q.jobs) e; rest = refl }

pub jobs_next : (l t : List ℕ) (i e next : ℕ) (js : List Held) (j : Held) → i < 16 → Took (jobs_at i t) l js e → Took (job_at (drop e l)) l j next
    → Took (jobs_at (i + 1) t) l (set js i j) next
unfolding jobs_at job_at
jobs_next l t i e next js j h r q =
    let first = map cut_job (jobs_in i t).part in
    let n : length first ≡ i = length-map (jobs_in i t).part cut_job ∙ jobs_length i t in
    let s : set (laid first) i j ≡ laid (first ++ j ∷ []) = rw n at (laid_next first j (omega arith)) in
    rw (add-one, jobs_more i t) (record {
      part = rw r.part (s ∙ simp (q.part, r.rest, map-append));
      rest = q.rest ∙ rw r.rest;
    })

-- ---- the other parts

module _ (l t : List ℕ) (b : ℕ) where
  pub brittle_yes : (d : Found ℕ) (e : ℕ) → b ≡ get_or t 0 0 → b ≡ 66 → Took (number_at (drop 17 t)) l d.value d.at
      → drop e l ≡ drop 53 (drop d.at l) → Took (brittle_at t) l (Some d.value) e
  unfolding brittle_at brittle_in number_at
  brittle_yes d e g y r q = simp (← g, eq-eqb b 66 y) (record { part = ap Some r.part; rest = q ∙ rw r.rest })

  pub brittle_no : (at : ℕ) → b ≡ get_or (drop at l) 0 0 → (b ≡ 66 → ⊥) → Took (brittle_at (drop at l)) l None at
  unfolding brittle_at brittle_in
  brittle_no at g n = simp (← g, ne_eqb b 66 n) (record { part = refl; rest = refl })

  pub chosen_idle_lem : (e : ℕ) → b ≡ get_or t 8 0 → b ≡ 105 → drop e l ≡ drop 12 t → Took (chosen_at t) l 16 e
  unfolding chosen_at chosen_in
  chosen_idle_lem e g y q = simp (← g, eq-eqb b 105 y) (record { part = refl; rest = q })

  pub chosen_row_lem : (c : Found ℕ) → b ≡ get_or t 8 0 → (b ≡ 105 → ⊥) → Took (number_at (drop 12 t)) l c.value c.at
      → Took (chosen_at t) l c.value c.at
  unfolding chosen_at chosen_in number_at
  chosen_row_lem c g n r = simp (← g, ne_eqb b 105 n) (record { part = r.part; rest = r.rest })

  pub decided_yes : (w : Found ℕ) (e : ℕ) → b ≡ get_or t 2 0 → b ≡ 98 → Took (number_at (drop 10 t)) l w.value w.at
      → drop e l ≡ drop 2 (drop w.at l) → Took (decided_at t) l (Some w.value) e
  unfolding decided_at decided_in number_at
  decided_yes w e g y r q = simp (← g, eq-eqb b 98 y) (record { part = ap Some r.part; rest = q ∙ rw r.rest })

  pub decided_no : (e : ℕ) → b ≡ get_or t 2 0 → (b ≡ 98 → ⊥) → drop e l ≡ drop 19 t → Took (decided_at t) l None e
  unfolding decided_at decided_in
  decided_no e g n q = simp (← g, ne_eqb b 98 n) (record { part = refl; rest = q })

pub ruleset brittle_cases = (brittle_yes, brittle_no)

pub ruleset chosen_cases = (chosen_idle_lem, chosen_row_lem)

pub ruleset decided_cases = (decided_yes, decided_no)

module _ (t : List ℕ) (b : ℕ) (g : b ≡ get_or t 3 0) where
  pub cause_remaining : b ≡ 116 → Remaining ≡ cause_in t
  unfolding cause_in
  cause_remaining y = simp (← g, eq-eqb b 116 y)

  pub cause_word : (b ≡ 116 → ⊥) → b ≡ 101 → Word ≡ cause_in t
  unfolding cause_in
  cause_word m y = simp (← g, ne_eqb b 116 m, eq-eqb b 101 y)

  pub cause_no_word : (b ≡ 116 → ⊥) → (b ≡ 101 → ⊥) → b ≡ 104 → NoWord ≡ cause_in t
  unfolding cause_in
  cause_no_word m n y = simp (← g, ne_eqb b 116 m, ne_eqb b 101 n, eq-eqb b 104 y)

  pub cause_nothing : (b ≡ 116 → ⊥) → (b ≡ 101 → ⊥) → (b ≡ 104 → ⊥) → Nothing ≡ cause_in t
  unfolding cause_in
  cause_nothing m n o = simp (← g, ne_eqb b 116 m, ne_eqb b 101 n, ne_eqb b 104 o)

pub ruleset cause_cases = (cause_remaining, cause_word, cause_no_word, cause_nothing)

-- ---- all of them

pub parts_are : (l t : List ℕ) (n : ℕ) (js : Found (List Held)) (b : Found (Option ℕ)) (c : Found ℕ) (w : Found (Option ℕ)) (s : Found ℕ) (k : Cause)
    → Took (jobs_at n t) l js.value js.at
    → Took (brittle_at (drop js.at l)) l b.value b.at
    → Took (chosen_at (drop b.at l)) l c.value c.at
    → Took (decided_at (drop c.at l)) l w.value w.at
    → Took (number_at (drop 5 (drop w.at l))) l s.value s.at
    → k ≡ cause_in (drop s.at l)
    → record {
      jobs = js.value;
      count = n;
      brittle = b.value;
      chosen = c.value;
      decided = w.value;
      span = s.value;
      cause = k;
    }
    ≡ parts_of (cut_all (explanation_from n t))
unfolding jobs_at brittle_at chosen_at decided_at number_at cut_all explanation_from
parts_are l t n js b c w s k hj hb hc hw hs hk =
    simp (
      hj.part,
      hb.part,
      hc.part,
      hw.part,
      hs.part,
      hk,
      hs.rest,
      hw.rest,
      hc.rest,
      hb.rest,
      hj.rest,
      length-map,
      jobs_length,
    )
