-- The text of an explanation (docs/EXPLANATIONS.md). Definitions only. Assumes nothing.
use Rattle.std.specs.Prelude.{ℕ, cond, List, [], ◌∷◌, ◌++◌, eqb, length, None, Option, Some}
use Rattle.decimal.specs.Decimal.{decimal}
use Rattle.wording.specs.declared.Held.{Held}
use Rattle.wording.specs.declared.Cause.{Cause}
use Rattle.wording.specs.declared.Cause.TheVariants.{Remaining, Word, NoWord, Nothing}
use Rattle.wording.specs.Explanation.{Explanation}
use Rattle.wording.specs.Phrases as p

-- 'Row 3, due at 15, budget 8: candidate.'; a budget of 0 has the words that it holds later jobs back
unfoldable pub job_text : Held → List ℕ
job_text j =
    p.row ++ decimal j.row ++ p.due_at ++ decimal j.due ++ p.budget ++ decimal j.budget
    ++ cond (eqb j.budget 0) p.holds []
    ++ cond j.candidate p.candidate p.not_candidate

unfoldable pub jobs_text : List Held → List ℕ
jobs_text [] = []
jobs_text (j ∷ l) = job_text j ++ jobs_text l

abbrev pub brittle_text : Option ℕ → List ℕ
brittle_text None = []
brittle_text (Some d) = p.brittle_from ++ decimal d ++ p.brittle_to

-- 16 is idle
unfoldable pub chosen_text : ℕ → List ℕ
chosen_text c = cond (eqb c 16) p.chosen_idle (p.chosen_row ++ decimal c)

abbrev pub decided_text : Option ℕ → List ℕ
decided_text None = p.no_word
decided_text (Some w) = p.by_word ++ decimal w ++ p.stop

abbrev pub cause_text : Cause → List ℕ
cause_text Remaining = p.by_remaining
cause_text Word = p.by_span_word
cause_text NoWord = p.by_lack
cause_text Nothing = p.by_nothing

unfoldable pub text_of : Explanation → List ℕ
text_of e =
    p.waiting_jobs ++ decimal (length e.jobs) ++ p.stop
    ++ jobs_text e.jobs
    ++ brittle_text e.brittle
    ++ chosen_text e.chosen
    ++ decided_text e.decided
    ++ p.span ++ decimal e.span ++ cause_text e.cause
