-- The text of an explanation in the pieces that the code writes. Assumes nothing.
use Rattle.std.specs.Prelude.{ℕ, ◌≤◌, ◌≡◌, refl, Bool, true, false, cond, List, [], ◌∷◌, ◌++◌, eqb, length, drop, None, Option, Some}
use Rattle.std.proofs.Common.{append_assoc, arith}
use Rattle.decimal.specs.Decimal.{decimal}
use Rattle.wording.specs.declared.Held.{Held}
use Rattle.wording.specs.declared.Cause.{Cause}
use Rattle.wording.specs.declared.Cause.TheVariants.{Remaining, Word, NoWord, Nothing}
use Rattle.wording.specs.Explanation.{Explanation}
use Rattle.wording.specs.Phrases as p
use Rattle.wording.specs.Text.{job_text, jobs_text, brittle_text, chosen_text, decided_text, cause_text, text_of}

-- A number is written with the byte after it, which is the first of the next phrase. What is left of that phrase:
abbrev pub rest : List ℕ → List ℕ
rest l = drop 1 l

-- a phrase, a number and the byte after it
abbrev pub value_text : List ℕ → ℕ → ℕ → List ℕ
value_text phrase n last = phrase ++ (decimal n ++ last ∷ [])

-- ---- the jobs

-- a budget and the colon after it
unfoldable pub budget_text : ℕ → List ℕ
budget_text n = decimal n ++ cond (eqb n 0) p.holds [] ++ 58 ∷ []

abbrev pub candidate_text : Bool → List ℕ
candidate_text b = cond b p.candidate p.not_candidate

-- the line that counts them
abbrev pub count_text : ℕ → List ℕ
count_text n = p.waiting_jobs ++ decimal n ++ p.stop

-- that line, and one for each
abbrev pub waiting_text : List Held → List ℕ
waiting_text l = count_text (length l) ++ jobs_text l

-- ---- the other lines

abbrev pub choice_text : ℕ → Option ℕ → List ℕ
choice_text c o = chosen_text c ++ decided_text o

abbrev pub span_text : ℕ → Cause → List ℕ
span_text n c = p.span ++ decimal n ++ cause_text c

-- ---- the pieces make up the text

pub candidate_colon : (b : Bool) → 58 ∷ rest (candidate_text b) ≡ candidate_text b
candidate_colon true = refl
candidate_colon false = refl

pub decided_comma : (o : Option ℕ) → 44 ∷ rest (decided_text o) ≡ decided_text o
decided_comma None = refl
decided_comma (Some n) = refl

pub cause_colon : (c : Cause) → 58 ∷ rest (cause_text c) ≡ cause_text c
cause_colon Remaining = refl
cause_colon Word = refl
cause_colon NoWord = refl
cause_colon Nothing = refl

pub job_pieces : (j : Held)
    → value_text p.row j.row 44 ++ value_text (rest p.due_at) j.due 44 ++ rest p.budget ++ budget_text j.budget ++ rest (candidate_text j.candidate)
    ≡ job_text j
unfolding job_text budget_text
job_pieces j = simp append_assoc (rw (candidate_colon j.candidate))

regroup : (a b c d e f : List ℕ) → a ++ (b ++ c) ++ (d ++ e ++ f) ≡ a ++ b ++ c ++ d ++ e ++ f
regroup a b c d e f = simp append_assoc

pub text_pieces : (e : Explanation)
    → waiting_text e.jobs ++ brittle_text e.brittle ++ choice_text e.chosen e.decided ++ span_text e.span e.cause ≡ text_of e
unfolding text_of
text_pieces e =
    regroup (waiting_text e.jobs ++ brittle_text e.brittle) (chosen_text e.chosen) (decided_text e.decided) p.span (decimal e.span)
    (cause_text e.cause)

-- ---- the longest of some phrases

pub candidate_short : (b : Bool) → length (candidate_text b) ≤ 19
candidate_short true = omega arith
candidate_short false = omega arith

pub cause_short : (c : Cause) → length (cause_text c) ≤ 40
cause_short Remaining = omega arith
cause_short Word = omega arith
cause_short NoWord = omega arith
cause_short Nothing = omega arith
