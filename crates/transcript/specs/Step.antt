-- What each line of calls does and prints (docs/SPECIFICATION.md §8.4). Assumes nothing.
use Rattle.std.specs.Prelude.{ℕ, suc, Bool, true, false, cond, List, [], ◌∷◌, ◌++◌, ltb, length, drop}
use Rattle.lines.specs.declared.read.Call.{Call}
use Rattle.lines.specs.declared.read.Call.TheVariants.{Arrive, Choose, Advance, Finish}
use Rattle.lines.specs.declared.read.Line.{Line}
use Rattle.lines.specs.declared.read.Line.TheVariants.{Row, Word, Call as CallLine, Empty, Unreadable}
use Rattle.lines.specs.Text.{line_text}
use Rattle.session.specs.declared.Session.{Session}
use Rattle.session.specs.declared.Answer.{Answer}
use Rattle.session.specs.declared.Outcome.{Outcome}
use Rattle.session.specs.Calls.{shown, arrive_of, choose_of, advance_of, finish_of}

-- how many words may wait
abbrev pub queue_limit : ℕ
queue_limit = 1024

-- what a line prints, and what it leaves: the session, the words waiting, and whether output ends
pub record Step : Type 0 where
  pub text : List ℕ
  pub session : Session
  pub queue : List ℕ
  pub ends : Bool

-- the calls by their letters: `A` arrives, `G` chooses from the words waiting, `R` advances, `F` finishes
abbrev pub letter_of : Call → ℕ
letter_of (Arrive row) = 65
letter_of Choose = 71
letter_of (Advance n) = 82
letter_of Finish = 70

unfoldable pub call_of : Session → List ℕ → Call → Outcome
call_of s q (Arrive row) = arrive_of s row
call_of s q Choose = choose_of s q
call_of s q (Advance n) = advance_of s n
call_of s q Finish = finish_of s

-- a call's line: clock after it, letter, number and two values
unfoldable pub answer_text : ℕ → ℕ → Answer → List ℕ
answer_text clock letter a = line_text clock letter (shown a).number (shown a).first (shown a).second

-- the words that a call used leave the queue; only a choice uses any
abbrev pub told : ℕ → List ℕ → Outcome → Step
told letter q o = record {
  text = answer_text o.session.clock letter o.answer;
  session = o.session;
  queue = drop o.used q;
  ends = false;
}

-- an unreadable line, number n from 1: letter `?` and number 13; output ends
abbrev pub unread : Session → List ℕ → ℕ → Step
unread s q n = record { text = line_text s.clock 63 13 n 0; session = s; queue = q; ends = true }

abbrev pub queued : Session → List ℕ → Step
queued s q = record { text = []; session = s; queue = q; ends = false }

-- one line: the session, the words waiting and the line's number go in. `T` comes only before any other letter.
unfoldable pub step_of : Session → List ℕ → ℕ → Line → Step
step_of s q n (Row c t d) = unread s q n
step_of s q n (Word w) = cond (ltb (length q) queue_limit) (queued s (q ++ w ∷ [])) (unread s q n)
step_of s q n (CallLine c) = told (letter_of c) q (call_of s q c)
step_of s q n Empty = unread s q n
step_of s q n Unreadable = unread s q n

-- the lines after the table, from line number n on
unfoldable pub calls_text : Session → List ℕ → ℕ → List Line → List ℕ
calls_text s q n [] = []
calls_text s q n (x ∷ l) =
    (step_of s q n x).text
    ++ cond (step_of s q n x).ends [] (calls_text (step_of s q n x).session (step_of s q n x).queue (suc n) l)
