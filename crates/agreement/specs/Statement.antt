-- What is said of explanations (docs/SPECIFICATION.md §11). Definitions only. Assumes nothing.
use Rattle.std.specs.Prelude.{ℕ, ◌%◌, ◌^◌, ◌≤◌, ◌<◌, ◌≡◌, true, List, ◌∷◌, ◌++◌, length, get_or, take, drop, None, Some, Ok}
use Rattle.session.specs.declared.Session.{Session}
use Rattle.session.specs.declared.Answer.TheVariants.{Chosen}
use Rattle.session.specs.Reading.{waits}
use Rattle.session.specs.Sound.{sound}
use Rattle.session.specs.Order.{before, head_of, candidates, candidate_at, waiting_count, waiting_at}
use Rattle.session.specs.Choose.{draw_limit, pick_of}
use Rattle.session.specs.Calls.{shown, choose_of}
use Rattle.guarantee.specs.Draws.{AllPassed}
use Rattle.wording.specs.Explanation.{Fits, no_held}
use Rattle.wording.specs.Text.{text_of}
use Rattle.reader.specs.Reading.{reading_of}
use Rattle.explain.specs.declared.Told.{Told}
use Rattle.explain.specs.Explain.{held_of, decided_of, explanation_of, explain_of, told_of, buffer_of, shown_told}

-- ---- it agrees with choose

-- the answer and the words used are choose's; where that is accepted, the parts name its row and its span
pub record Agrees (s : Session) (l : List ℕ) : Type 0 where
  pub answer : (explain_of s l).answer ≡ (choose_of s l).answer
  pub used : (explain_of s l).used ≡ (choose_of s l).used
  pub named : (shown (choose_of s l).answer).number ≡ 0
      → (choose_of s l).answer ≡ Chosen (explain_of s l).parts.chosen (explain_of s l).parts.span

-- AN EXPLANATION AGREES WITH CHOOSE, on every session and on all words
abbrev pub AgreesWithChoose : Type 0
AgreesWithChoose = (s : Session) (l : List ℕ) → Agrees s l

-- ---- its jobs

pub record JobsInOrder (s : Session) (l : List ℕ) : Type 0 where
  pub number : length (explanation_of s l).jobs ≡ waiting_count s
  -- in each place stands a waiting job, as it is
  pub each : (k : ℕ) → k < waiting_count s
      → (waiting_at s k < s.count) × (waits s (waiting_at s k) ≡ true) × (get_or (explanation_of s l).jobs k no_held ≡ held_of s (waiting_at s k))
  -- every waiting job stands in one
  pub all : (i : ℕ) → i < s.count → waits s i ≡ true → (k : ℕ) × (k < waiting_count s) × (waiting_at s k ≡ i)
  -- a job that stands before another is before it
  pub order : (j k : ℕ) → j < k → k < waiting_count s → before s (waiting_at s j) (waiting_at s k) ≡ true

-- IT NAMES EACH WAITING JOB ONCE, IN ORDER
abbrev pub InOrder : Type 0
InOrder = (s : Session) (l : List ℕ) → JobsInOrder s l

-- ---- the deciding word

-- w is the first word of l that is not passed over, and names the candidate that is chosen
pub record Deciding (s : Session) (l : List ℕ) (w : ℕ) : Type 0 where
  pub before : List ℕ
  pub after : List ℕ
  pub words : l ≡ before ++ w ∷ after
  pub passed : AllPassed (candidates s) before
  pub taken : w < draw_limit (candidates s)
  pub chosen : pick_of s l ≡ candidate_at s (w % candidates s)

-- THE WORD THAT IT NAMES DECIDED, AND NONE BEFORE IT
abbrev pub WordDecided : Type 0
WordDecided = (s : Session) (l : List ℕ) (w : ℕ) → decided_of s l ≡ Some w → Deciding s l w

-- WHERE IT NAMES NONE, THE HEAD WAS CHOSEN, if a job waits
abbrev pub NoneDecided : Type 0
NoneDecided = (s : Session) (l : List ℕ) → decided_of s l ≡ None → head_of s < s.count → pick_of s l ≡ head_of s

-- ---- the text

-- each word has 32 bits
abbrev pub Words : List ℕ → Type 0
Words l = (i : ℕ) → get_or l i 0 < 2 ^ 32

-- EVERY EXPLANATION OF A SOUND SESSION FITS: 16 jobs at most, and numbers of 64 bits
abbrev pub ExplanationFits : Type 0
ExplanationFits = (s : Session) (l : List ℕ) → sound s ≡ true → Words l → Fits (explanation_of s l)

-- where a text of n bytes is told, it stands at the start of the buffer, is short, and the bytes past it are as they were
pub record TextStands (s : Session) (l d : List ℕ) (n : ℕ) : Type 0 where
  pub text : take n (buffer_of s l d) ≡ text_of (explanation_of s l)
  pub rest : drop n (buffer_of s l d) ≡ drop n d
  pub short : n ≤ 1951

-- THE TEXT IS THERE, AND NOTHING ELSE IS WRITTEN
abbrev pub Written : Type 0
Written = (s : Session) (l d : List ℕ) (t : Told) → Words l → told_of s l (length d) ≡ Ok t → TextStands s l d t.length

-- A REFUSAL WRITES NOTHING
abbrev pub RefusedSame : Type 0
RefusedSame = (s : Session) (l d : List ℕ) → ¬ ((shown_told (told_of s l (length d))).number ≡ 0) → buffer_of s l d ≡ d

-- WHAT A READER READS OF THE TEXT IS THE EXPLANATION
abbrev pub ReadAgain : Type 0
ReadAgain = (s : Session) (l d : List ℕ) (t : Told) → Words l → told_of s l (length d) ≡ Ok t
    → reading_of (take t.length (buffer_of s l d)) ≡ Some (explain_of s l).parts
