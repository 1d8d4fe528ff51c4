-- What is shown of the output of `explained` (docs/EXPLANATIONS.md, the last section). Statements only. Assumes nothing.
use Rattle.std.specs.Prelude.{ℕ, ◌≡◌, List, [], ◌++◌, take}
use Rattle.lines.specs.declared.read.Call.TheVariants.{Choose}
use Rattle.lines.specs.declared.read.Line.{Line}
use Rattle.lines.specs.declared.read.Line.TheVariants.{Call}
use Rattle.session.specs.Calls.{shown, choose_of}
use Rattle.wording.specs.Text.{text_of}
use Rattle.explain.specs.Explain.{explanation_of}
use Rattle.transcript.specs.declared.opening.State.{State}
use Rattle.transcript.specs.Transcript.{printed_of}
use Rattle.narration.specs.Narration.{narrated_of, narration_of}
use Rattle.narration.specs.Telling.{Began}
use Rattle.narration.specs.Moments.{Moment, moments_of, answer_at, explanation_at, table_text, joined, Calls}

-- WITHOUT THE EXPLANATIONS IT IS THE OUTPUT OF `shuffle`: both print the table, and then of the same lines the one prints the
-- answers, each with what follows it, and the other the answers
abbrev pub AsShuffle : Type 0
AsShuffle =
    (l : List Line)
    → (narrated_of l ≡ table_text l ++ joined (λ m. answer_at m ++ explanation_at m) (moments_of l))
    × (printed_of l ≡ table_text l ++ joined answer_at (moments_of l))

-- the line is a choose that is accepted
pub record Accepted (m : Moment) : Type 0 where
  pub line : m.line ≡ Call Choose
  pub number : (shown (choose_of m.session m.queue).answer).number ≡ 0

-- AFTER EACH CHOOSE THAT IS ACCEPTED ITS EXPLANATION FOLLOWS, of the session and the words before the line
abbrev pub ChoicesExplained : Type 0
ChoicesExplained = (m : Moment) → Accepted m → explanation_at m ≡ text_of (explanation_of m.session m.queue)

-- AND AFTER NO OTHER LINE ANYTHING
abbrev pub NothingElse : Type 0
NothingElse = (m : Moment) → (Accepted m → ⊥) → explanation_at m ≡ []

-- THE PARTS ARE THE WHOLE: what `begin` writes, and what `more` writes, called until all is told, is the output for the input
abbrev pub PartsWhole : Type 0
PartsWhole =
    (text : List ℕ) (t : State) (out words rest : List ℕ) → Began text t out → Calls text t words rest
    → take t.play.end out ++ rest ≡ narration_of text
