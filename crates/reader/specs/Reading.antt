-- Which bytes are the text of an explanation, and of which one (docs/EXPLANATIONS.md). Definitions only. Assumes nothing.
use Rattle.std.specs.Prelude.{ℕ, zero, suc, ◌^◌, Bool, true, false, ◌&&◌, cond, List, [], ◌∷◌, leb, ltb, eqb, length, drop, get_or, None, Option, Some}
use Rattle.decimal.specs.Number.{is_digit, value_from}
use Rattle.wording.specs.declared.Held.{Held}
use Rattle.wording.specs.declared.Cause.{Cause}
use Rattle.wording.specs.declared.Cause.TheVariants.{Remaining, Word, NoWord, Nothing}
use Rattle.wording.specs.declared.Parts.{Parts}
use Rattle.wording.specs.Explanation.{Explanation, parts_of}
use Rattle.wording.specs.Text.{text_of}

-- ---- as if the bytes were a text: a number is the digits in front, a phrase is skipped by its length, and one byte tells
-- which phrase follows

-- the digits in front, and what follows them
unfoldable pub digits : List ℕ → List ℕ
digits [] = []
digits (b ∷ l) = cond (is_digit b) (b ∷ digits l) []

unfoldable pub after_digits : List ℕ → List ℕ
after_digits [] = []
after_digits (b ∷ l) = cond (is_digit b) (after_digits l) (b ∷ l)

abbrev pub number_in : List ℕ → ℕ
number_in l = value_from 0 (digits l)

-- a part of an explanation, and the bytes after it
pub record Part (A : Type 0) : Type 0 where
  pub part : A
  pub rest : List ℕ

abbrev pub is_byte : ℕ → ℕ → List ℕ → Bool
is_byte b i l = eqb (get_or l i 0) b

-- a blank begins the words that a budget of 0 has after it
unfoldable pub past_holds_lem : List ℕ → List ℕ
past_holds_lem l = cond (is_byte 32 0 l) (drop 24 l) l

-- c begins 'candidate'
unfoldable pub candidate_in : List ℕ → Part Bool
candidate_in l = cond (is_byte 99 2 l) (record { part = true; rest = drop 13 l }) (record { part = false; rest = drop 19 l })

unfoldable pub job_in : List ℕ → Part Held
job_in l =
    let d = drop 9 (after_digits (drop 4 l)) in
    let b = drop 9 (after_digits d) in
    let c = candidate_in (past_holds_lem (after_digits b)) in
    record {
      part = record { row = number_in (drop 4 l); due = number_in d; budget = number_in b; candidate = c.part };
      rest = c.rest;
    }

-- so many jobs
unfoldable pub jobs_in : ℕ → List ℕ → Part (List Held)
jobs_in zero l = record { part = []; rest = l }
jobs_in (suc n) l = record { part = (job_in l).part ∷ (jobs_in n (job_in l).rest).part; rest = (jobs_in n (job_in l).rest).rest }

-- B begins the line of the brittle deadline
unfoldable pub brittle_in : List ℕ → Part (Option ℕ)
brittle_in l =
    cond (is_byte 66 0 l) (record { part = Some (number_in (drop 17 l)); rest = drop 53 (after_digits (drop 17 l)) })
    (record { part = None; rest = l })

-- i begins 'idle'
unfoldable pub chosen_in : List ℕ → Part ℕ
chosen_in l =
    cond (is_byte 105 8 l) (record { part = 16; rest = drop 12 l })
    (record { part = number_in (drop 12 l); rest = after_digits (drop 12 l) })

-- b begins 'by word'
unfoldable pub decided_in : List ℕ → Part (Option ℕ)
decided_in l =
    cond (is_byte 98 2 l) (record { part = Some (number_in (drop 10 l)); rest = drop 2 (after_digits (drop 10 l)) })
    (record { part = None; rest = drop 19 l })

-- the second letter of what set the span: t, e, h or o
unfoldable pub cause_in : List ℕ → Cause
cause_in l = cond (is_byte 116 3 l) Remaining (cond (is_byte 101 3 l) Word (cond (is_byte 104 3 l) NoWord Nothing))

-- what follows the line that counts n jobs
unfoldable pub explanation_from : ℕ → List ℕ → Explanation
explanation_from n l =
    let js = jobs_in n l in
    let b = brittle_in js.rest in
    let c = chosen_in b.rest in
    let w = decided_in c.rest in
    record {
      jobs = js.part;
      brittle = b.part;
      chosen = c.part;
      decided = w.part;
      span = number_in (drop 5 w.rest);
      cause = cause_in (after_digits (drop 5 w.rest));
    }

unfoldable pub explanation_in : List ℕ → Explanation
explanation_in l = explanation_from (number_in (drop 14 l)) (drop 2 (after_digits (drop 14 l)))

-- ---- whether they are one: what was read so fits, and has these bytes as its text

-- whether a u64 holds it
abbrev pub small : ℕ → Bool
small n = ltb n (2 ^ 64)

unfoldable pub small_jobs : List Held → Bool
small_jobs [] = true
small_jobs (j ∷ l) = small j.row && (small j.due && (small j.budget && small_jobs l))

abbrev pub small_optional : Option ℕ → Bool
small_optional None = true
small_optional (Some n) = small n

-- whether 16 places and 64 bits hold it
unfoldable pub fits : Explanation → Bool
fits e =
    leb (length e.jobs) 16
    && (small_jobs e.jobs
    && (small_optional e.brittle
    && (small e.chosen
    && (small_optional e.decided
    && small e.span))))

-- whether two lists have the same bytes
unfoldable pub same : List ℕ → List ℕ → Bool
same [] [] = true
same [] (b ∷ m) = false
same (a ∷ l) [] = false
same (a ∷ l) (b ∷ m) = eqb a b && same l m

unfoldable pub is_text : List ℕ → Bool
is_text l = fits (explanation_in l) && same (text_of (explanation_in l)) l

-- what a reader answers: the parts, or none where the bytes are no text
unfoldable pub reading_of : List ℕ → Option Parts
reading_of l = cond (is_text l) (Some (parts_of (explanation_in l))) None
