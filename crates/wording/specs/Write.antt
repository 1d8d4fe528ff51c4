-- The text of an explanation written into a lent buffer: what the code of `src/text.rt` needs. Assumes nothing.
use Rattle.std.specs.Prelude.{ℕ, ◌+◌, ◌*◌, ◌≤◌, ◌<◌, ◌≡◌, refl, List, [], ◌∷◌, ◌++◌, length, take, get_or, None, Option, Some}
use Rattle.std.proofs.Common.{sym, ap, ◌∙◌, append_assoc, append-nil, add-one, arith, take-suc, eq-eqb, ne_eqb}
use Rattle.std.proofs.Math.Seq.{take-length}
use Rattle.decimal.specs.Decimal.{decimal, decimal_in}
use Rattle.decimal.specs.Buffer.{Wrote, wrote_none, wrote_length, wrote_more, wrote_within}
use Rattle.wording.specs.declared.Held.{Held}
use Rattle.wording.specs.declared.Cause.{Cause}
use Rattle.wording.specs.Explanation.{Explanation, no_held}
use Rattle.wording.specs.Phrases as p
use Rattle.wording.specs.Text.{job_text, jobs_text, brittle_text, chosen_text, decided_text, cause_text, text_of}
use Rattle.wording.specs.Pieces.{rest, value_text, budget_text, candidate_text, count_text, waiting_text, choice_text, span_text, decided_comma, cause_colon, job_pieces, text_pieces}

-- ---- one piece after another

wrote_then : {m₁ m₂ : ℕ} {t u d e f : List ℕ} {at p q : ℕ} → at + m₁ ≤ length d → Wrote m₁ t d e at p → Wrote m₂ u e f p q
    → Wrote (m₁ + m₂) (t ++ u) d f at q
wrote_then h v w = wrote_more _ _ _ _ _ _ _ _ _ _ (omega (arith, v.short)) v w

-- the same text in other pieces, and a greater bound
wrote_as : {m k : ℕ} {t u d e : List ℕ} {at q : ℕ} → m ≤ k → t ≡ u → Wrote m t d e at q → Wrote k u d e at q
wrote_as h s w = rw s at (wrote_within _ _ _ _ _ _ _ h w)

-- ---- `put_value`

pub value_is : (t : List ℕ) (n last : ℕ) (d e f : List ℕ) (at p q : ℕ) → at + (length t + 21) ≤ length d → Wrote (length t) t d e at p
    → Wrote 21 (decimal n ++ last ∷ []) e f p q → Wrote (length t + 21) (value_text t n last) d f at q
value_is t n last d e f at p q h v w = wrote_then (omega arith) v w

-- ---- `put_budget`

module _ (n at q : ℕ) (d e : List ℕ) where
  pub budget_none : n ≡ 0 → Wrote 26 (48 ∷ p.holds ++ 58 ∷ []) d e at q → Wrote 26 (budget_text n) d e at q
  unfolding budget_text decimal decimal_in
  budget_none z w = rw z w

  pub budget_some : (n ≡ 0 → ⊥) → Wrote 21 (decimal n ++ 58 ∷ []) d e at q → Wrote 26 (budget_text n) d e at q
  unfolding budget_text
  budget_some ne w = simp (ne_eqb n 0 ne, append-nil) (wrote_within 21 26 _ d e at q (omega arith) w)

pub ruleset budget_cases = (budget_none, budget_some)

-- ---- `put_job`

pub job_is : (j : Held) (d₀ d₁ d₂ d₃ d₄ d₅ : List ℕ) (a₀ a₁ a₂ a₃ a₄ a₅ : ℕ) → a₀ + 106 ≤ length d₀
    → Wrote 25 (value_text p.row j.row 44) d₀ d₁ a₀ a₁
    → Wrote 29 (value_text (rest p.due_at) j.due 44) d₁ d₂ a₁ a₂
    → Wrote 8 (rest p.budget) d₂ d₃ a₂ a₃
    → Wrote 26 (budget_text j.budget) d₃ d₄ a₃ a₄
    → Wrote 18 (rest (candidate_text j.candidate)) d₄ d₅ a₄ a₅
    → Wrote 106 (job_text j) d₀ d₅ a₀ a₅
job_is j d₀ d₁ d₂ d₃ d₄ d₅ a₀ a₁ a₂ a₃ a₄ a₅ room w₁ w₂ w₃ w₄ w₅ =
    let x₂ = wrote_then (omega arith) w₁ w₂ in
    let x₃ = wrote_then (omega arith) x₂ w₃ in
    let x₄ = wrote_then (omega arith) x₃ w₄ in
    wrote_as (omega arith) (job_pieces j) (wrote_then (omega arith) x₄ w₅)

-- ---- `put_count`

pub count_is : (n : ℕ) (d e f : List ℕ) (at q r : ℕ) → at + 36 ≤ length d → Wrote 35 (value_text p.waiting_jobs n 46) d e at q → Wrote 1 (10 ∷ []) e f q r
    → Wrote 36 (count_text n) d f at r
count_is n d e f at q r room v w = wrote_as (omega arith) (simp append_assoc) (wrote_then (omega arith) v w)

-- ---- `put_jobs`

jobs_next : (l : List Held) (j : Held) → jobs_text (l ++ j ∷ []) ≡ jobs_text l ++ job_text j
unfolding jobs_text
jobs_next [] j = simp append-nil
jobs_next (i ∷ l) j = rw (jobs_next l j, append_assoc)

-- what the code requires, and that the lines of the first i jobs were written; q is the place past them
pub record Listed (jobs : List Held) (d : List ℕ) (at i : ℕ) (e : List ℕ) (q : ℕ) : Type 0 where
  pub few : length jobs ≤ 16
  pub room : at + 1696 ≤ length d
  pub within : i ≤ length jobs
  pub same : length e ≡ length d
  pub text : Wrote (106 * i) (jobs_text (take i jobs)) d e at q

module _ (jobs : List Held) (d : List ℕ) (at : ℕ) where
  pub listed_next : (i : ℕ) (e : List ℕ) (q : ℕ) → Listed jobs d at i e q → (j : Held) (f : List ℕ) (r : ℕ) → i < length jobs → Wrote 106 (job_text j) e f q r
      → j ≡ get_or jobs i no_held → Listed jobs d at (i + 1) f r
  listed_next i e q x j f r h w s =
      let next : take (i + 1) jobs ≡ take i jobs ++ j ∷ [] = rw (s, add-one i) (take-suc jobs i no_held (omega arith)) in
      let t = x.text in
      record {
        few = x.few;
        room = x.room;
        within = omega arith;
        same = wrote_length 106 (job_text j) e f q r (omega arith) w ∙ x.same;
        text = wrote_as (omega arith) (rw next (sym (jobs_next (take i jobs) j))) (wrote_then (omega arith) t w);
      }

  -- after the line that counts them
  module _ (d₀ : List ℕ) (a₀ : ℕ) (room : a₀ + 1732 ≤ length d₀) (w : Wrote 36 (count_text (length jobs)) d₀ d a₀ at) where
    pub listed_start : length jobs ≤ 16 → Listed jobs d at 0 d at
    unfolding jobs_text
    listed_start few = record {
      few = few;
      room = omega (arith, wrote_length 36 (count_text (length jobs)) d₀ d a₀ at (omega (arith, w.short)) w);
      within = omega arith;
      same = refl;
      text = wrote_none 0 d at;
    }

    pub listed_all : (i : ℕ) (e : List ℕ) (q : ℕ) → Listed jobs d at i e q → length jobs ≤ i → Wrote 1732 (waiting_text jobs) d₀ e a₀ q
    listed_all i e q x h =
        let all : i ≡ length jobs = omega (arith, x.within) in
        let text = rw (all, take-length jobs) at x.text in
        wrote_then (omega arith) w (wrote_within _ 1696 _ _ _ _ _ (omega (arith, x.few)) text)

pub ruleset listed_laws = (listed_start, listed_next, listed_all)

-- ---- `put_brittle`

module _ (b : Option ℕ) (d : List ℕ) (at : ℕ) where
  pub brittle_none : b ≡ None → Wrote 90 (brittle_text b) d d at at
  brittle_none h = rw h (wrote_none 90 d at)

  pub brittle_some : (n : ℕ) (e f : List ℕ) (q r : ℕ) → at + 90 ≤ length d → b ≡ Some n → Wrote 38 (value_text p.brittle_from n 58) d e at q
      → Wrote 52 (rest p.brittle_to) e f q r → Wrote 90 (brittle_text b) d f at r
  brittle_some n e f q r room s v w = rw s (wrote_as (omega arith) (simp append_assoc) (wrote_then (omega arith) v w))

pub ruleset brittle_cases = (brittle_none, brittle_some)

-- ---- `put_chosen`

module _ (c : ℕ) (d e : List ℕ) (at q : ℕ) where
  pub chosen_idle_lem : c ≡ 16 → Wrote 13 (p.chosen_idle ++ 44 ∷ []) d e at q → Wrote 33 (chosen_text c ++ 44 ∷ []) d e at q
  unfolding chosen_text
  chosen_idle_lem s w = simp (eq-eqb c 16 s) (wrote_within 13 33 _ d e at q (omega arith) w)

  pub chosen_row_lem : (c ≡ 16 → ⊥) → Wrote 33 (value_text p.chosen_row c 44) d e at q → Wrote 33 (chosen_text c ++ 44 ∷ []) d e at q
  unfolding chosen_text
  chosen_row_lem s w = simp (ne_eqb c 16 s, append_assoc) w

pub ruleset chosen_cases = (chosen_idle_lem, chosen_row_lem)

-- ---- `put_decided`

pub decided_some : (o : Option ℕ) (n : ℕ) (d e f : List ℕ) (at q r : ℕ) → at + 31 ≤ length d → o ≡ Some n
    → Wrote 30 (value_text (rest p.by_word) n 46) d e at q
    → Wrote 1 (10 ∷ []) e f q r
    → Wrote 31 (rest (decided_text o)) d f at r
decided_some o n d e f at q r room s v w = rw s (wrote_as (omega arith) (simp append_assoc) (wrote_then (omega arith) v w))

-- ---- `put_choice`

pub choice_is : (c : ℕ) (o : Option ℕ) (d e f : List ℕ) (at q r : ℕ) → at + 64 ≤ length d → Wrote 33 (chosen_text c ++ 44 ∷ []) d e at q
    → Wrote 31 (rest (decided_text o)) e f q r → Wrote 64 (choice_text c o) d f at r
choice_is c o d e f at q r room v w =
    wrote_as (omega arith) (rw append_assoc (ap (λ (l : List ℕ). chosen_text c ++ l) (decided_comma o))) (wrote_then (omega arith) v w)

-- ---- `put_span`

pub span_is : (n : ℕ) (c : Cause) (d e f : List ℕ) (at q r : ℕ) → at + 65 ≤ length d → Wrote 26 (value_text p.span n 58) d e at q
    → Wrote 39 (rest (cause_text c)) e f q r → Wrote 65 (span_text n c) d f at r
span_is n c d e f at q r room v w = wrote_as (omega arith) (simp append_assoc (rw (cause_colon c))) (wrote_then (omega arith) v w)

-- ---- `put_text`

pub text_is : (e : Explanation) (d₀ d₁ d₂ d₃ d₄ : List ℕ) (a₀ a₁ a₂ a₃ a₄ : ℕ) → a₀ + 1951 ≤ length d₀
    → Wrote 1732 (waiting_text e.jobs) d₀ d₁ a₀ a₁
    → Wrote 90 (brittle_text e.brittle) d₁ d₂ a₁ a₂
    → Wrote 64 (choice_text e.chosen e.decided) d₂ d₃ a₂ a₃
    → Wrote 65 (span_text e.span e.cause) d₃ d₄ a₃ a₄
    → Wrote 1951 (text_of e) d₀ d₄ a₀ a₄
text_is e d₀ d₁ d₂ d₃ d₄ a₀ a₁ a₂ a₃ a₄ room w₁ w₂ w₃ w₄ =
    let x₂ = wrote_then (omega arith) w₁ w₂ in
    let x₃ = wrote_then (omega arith) x₂ w₃ in
    wrote_as (omega arith) (text_pieces e) (wrote_then (omega arith) x₃ w₄)
