-- The proofs of Statement.antt. Assumes nothing.
use Rattle.std.specs.Prelude.{ℕ, suc, ◌/◌, ◌≡◌, refl, Bool, true, false, cond, eqb, length, take}
use Rattle.std.proofs.Common.{sym, ◌∙◌, eq-eqb, eqb-true}
use Rattle.std.proofs.Math.Path.{ap}
use mathlib.Core.List.{List, [], ◌∷◌, ◌++◌}
use Rattle.bounded.specs.Tests.{both}
use Rattle.lines.specs.declared.read.Call.TheVariants.{Arrive, Choose, Advance, Finish}
use Rattle.lines.specs.declared.read.Line.{Line}
use Rattle.lines.specs.declared.read.Line.TheVariants.{Row, Word, Call, Empty, Unreadable}
use Rattle.table.specs.Verdict.{opinion_of}
use Rattle.session.specs.declared.Session.{Session}
use Rattle.session.specs.Start.{session_of}
use Rattle.session.specs.Calls.{shown, choose_of}
use Rattle.transcript.specs.declared.opening.State.{State}
use Rattle.transcript.specs.Step.{step_of, calls_text}
use Rattle.transcript.specs.Transcript.{row_limit, rows_in, after_rows, printed_of}
use Rattle.narration.specs.Narration.{explanation_after, narrated_line, narrated_lines, narrated_of}
use Rattle.narration.specs.Telling.{owed}
use Rattle.narration.specs.Moments.{Moment, moments_from, moments_of, answer_at, explanation_at, table_text, joined, Calls, done, again}
use Rattle.narration.specs.Statement.{AsShuffle, ChoicesExplained, NothingElse, PartsWhole}

-- ---- the lines that are answered

-- either of the two outputs, after the lines that end it or not
joined_cond : (f : Moment → List ℕ) (b : Bool) (l : List Moment) (x : List ℕ) → x ≡ joined f l → cond b [] x ≡ joined f (cond b [] l)
unfolding joined
joined_cond f true l x e = refl
joined_cond f false l x e = e

narrated_from : (s : Session) (q : List ℕ) (n : ℕ) (l : List Line)
    → narrated_lines s q n l ≡ joined (λ m. answer_at m ++ explanation_at m) (moments_from s q n l)
unfolding narrated_lines narrated_line moments_from joined
narrated_from s q n [] = refl
narrated_from s q n (x ∷ l) =
    ap (λ (y : List ℕ). narrated_line s q n x ++ y)
    (joined_cond (λ m. answer_at m ++ explanation_at m) (step_of s q n x).ends _ _
    (narrated_from (step_of s q n x).session (step_of s q n x).queue (suc n) l))

printed_from : (s : Session) (q : List ℕ) (n : ℕ) (l : List Line) → calls_text s q n l ≡ joined answer_at (moments_from s q n l)
unfolding calls_text moments_from joined
printed_from s q n [] = refl
printed_from s q n (x ∷ l) =
    ap (λ (y : List ℕ). (step_of s q n x).text ++ y)
    (joined_cond answer_at (step_of s q n x).ends _ _ (printed_from (step_of s q n x).session (step_of s q n x).queue (suc n) l))

-- the table may be refused
joined_if : (f : Moment → List ℕ) (b : Bool) (l : List Moment) (x : List ℕ) → x ≡ joined f l → cond b x [] ≡ joined f (cond b l [])
unfolding joined
joined_if f true l x e = e
joined_if f false l x e = refl

module _ (l : List Line) where
  abbrev admitted : Bool
  admitted = eqb (opinion_of (rows_in row_limit l)).number 0

  abbrev s : Session
  s = session_of (rows_in row_limit l)

  abbrev n : ℕ
  n = suc (length (rows_in row_limit l) / 3)

  narrated_is : narrated_of l ≡ table_text l ++ joined (λ m. answer_at m ++ explanation_at m) (moments_of l)
  unfolding narrated_of moments_of
  narrated_is =
      ap (λ (y : List ℕ). table_text l ++ y)
      (joined_if (λ m. answer_at m ++ explanation_at m) admitted _ _ (narrated_from s [] n (after_rows row_limit l)))

  printed_is : printed_of l ≡ table_text l ++ joined answer_at (moments_of l)
  unfolding printed_of moments_of
  printed_is = ap (λ (y : List ℕ). table_text l ++ y) (joined_if answer_at admitted _ _ (printed_from s [] n (after_rows row_limit l)))

pub as_shuffle : AsShuffle
as_shuffle l = (narrated_is l, printed_is l)

-- ---- which lines are explained

pub choices_explained : ChoicesExplained
unfolding explanation_after
choices_explained m a = rw (a.line, eq-eqb (shown (choose_of m.session m.queue).answer).number 0 a.number)

pub nothing_else : NothingElse
unfolding explanation_after
nothing_else m ne = by m.line refl
  where
    by : (x : Line) → m.line ≡ x → explanation_after m.session m.queue x ≡ []
    by (Row c t d) e = refl
    by (Word w) e = refl
    by (Call (Arrive row)) e = refl
    by (Call Choose) e =
        both (eqb (shown (choose_of m.session m.queue).answer).number 0)
        (λ f. absurd (ne record { line = e; number = eqb-true (shown (choose_of m.session m.queue).answer).number 0 f })) (λ f. simp f)
    by (Call (Advance n)) e = refl
    by (Call Finish) e = refl
    by Empty e = refl
    by Unreadable e = refl

-- ---- the parts

calls_owed : (text : List ℕ) (t : State) (words rest : List ℕ) → Calls text t words rest → owed text t words ≡ rest
unfolding owed
calls_owed text t words rest (done e) = rw e
calls_owed text t words rest (again {r = r} {words' = words'} {out = out} {rest = left} e told calls) =
    told.output ∙ ap (λ (y : List ℕ). take r.play.end out ++ y) (calls_owed text r words' left calls)

pub parts_whole : PartsWhole
parts_whole text t out words rest b calls =
    ap (λ (y : List ℕ). take t.play.end out ++ y) (sym (calls_owed text t words rest calls)) ∙ sym (b.output words)
