-- A choice explained: what choose answers on the same session and words, and what led to it (docs/SPECIFICATION.md §11).
-- Definitions only. Assumes nothing.
use Rattle.std.specs.Prelude.{ℕ, zero, suc, cond, List, [], ◌∷◌, ◌++◌, ltb, eqb, length, None, Option, Some, Result, Ok, Err}
use Rattle.decimal.specs.Buffer.{overlay}
use Rattle.session.specs.declared.Session.{Session}
use Rattle.session.specs.declared.Answer.{Answer}
use Rattle.session.specs.declared.Answer.TheVariants.{Chosen, Unsound, InForce}
use Rattle.session.specs.Reading.{job_at}
use Rattle.session.specs.Sound.{sound}
use Rattle.session.specs.Calls.{Shown, three}
use Rattle.session.specs.Order.{head_of, brittle_due_lem, candidate, candidates, waiting_count, waiting_at}
use Rattle.session.specs.Choose.{passed_over, drawn, pick_of, unopposed, length_drawn, span_of, pick_used, used_of}
use Rattle.wording.specs.declared.Held.{Held}
use Rattle.wording.specs.declared.Cause.{Cause}
use Rattle.wording.specs.declared.Cause.TheVariants.{Remaining, Word, NoWord, Nothing}
use Rattle.wording.specs.Explanation.{Explanation, parts_of, no_parts}
use Rattle.wording.specs.Text.{text_of}
use Rattle.explain.specs.declared.Explained.{Explained}
use Rattle.explain.specs.declared.Told.{Told}
use Rattle.explain.specs.declared.Untold.{Untold}
use Rattle.explain.specs.declared.Untold.TheVariants.{Unsound as NotSound, InForce as Running, Short}

-- ---- the explanation

-- what is said of the waiting job of row i
unfoldable pub held_of : Session → ℕ → Held
held_of s i = record { row = i; due = (job_at s i).due; budget = (job_at s i).budget; candidate = candidate s i }

-- the first n waiting jobs in order
unfoldable pub held_to : Session → ℕ → List Held
held_to s zero = []
held_to s (suc n) = held_to s n ++ held_of s (waiting_at s n) ∷ []

-- in a mixed session the brittle deadline
unfoldable pub brittle_of : Session → Option ℕ
brittle_of s = cond (eqb s.kind 3) (Some (brittle_due_lem s)) None

-- the word that a draw between n takes: the first that is not passed over; 0 where there is none
unfoldable pub word_taken : List ℕ → ℕ → ℕ
word_taken [] n = 0
word_taken (w ∷ l) n = cond (passed_over n w) (word_taken l n) w

-- the word that decides between the candidates, if one does
unfoldable pub decided_of : Session → List ℕ → Option ℕ
decided_of s l = cond (drawn s l) (Some (word_taken l (candidates s))) None

-- what set the span: that nothing waits; the remaining ticks, where no waiting job is of strictly earlier deadline than the chosen
-- one; otherwise a word, or the lack of one
unfoldable pub cause_of : Session → List ℕ → Cause
cause_of s l =
    cond (ltb (head_of s) s.count)
    (cond (unopposed s (pick_of s l)) Remaining (cond (length_drawn s l (pick_used s l) (pick_of s l)) Word NoWord)) Nothing

unfoldable pub explanation_of : Session → List ℕ → Explanation
explanation_of s l = record {
  jobs = held_to s (waiting_count s);
  brittle = brittle_of s;
  chosen = pick_of s l;
  decided = decided_of s l;
  span = span_of s l (pick_used s l) (pick_of s l);
  cause = cause_of s l;
}

-- ---- what the calls give

-- refused: no parts, and no word used
abbrev pub unexplained : Answer → Explained
unexplained a = record { answer = a; used = 0; parts = no_parts }

-- of a sound session: choose's answer and the words that it uses, with the parts where it is accepted
unfoldable pub explain_in : Session → List ℕ → Explained
explain_in s l =
    cond (ltb 0 s.span) (unexplained (InForce s.span))
    record {
      answer = Chosen (explanation_of s l).chosen (explanation_of s l).span;
      used = used_of s l;
      parts = parts_of (explanation_of s l);
    }

-- of any session: one that is not sound is refused before all else, as by choose
unfoldable pub explain_of : Session → List ℕ → Explained
explain_of s l = cond (sound s) (explain_in s l) (unexplained Unsound)

-- how long a buffer for a text has to be
abbrev pub buffer_least : ℕ
buffer_least = 2048

-- what is said of a text for a buffer of n bytes: its length, and the words that choose uses; or 8, then 15
unfoldable pub told_in : Session → List ℕ → ℕ → Result Told Untold
told_in s l n =
    cond (ltb 0 s.span) (Err (Running s.span))
    (cond (ltb n buffer_least) (Err (Short n)) (Ok (record { length = length (text_of (explanation_of s l)); used = used_of s l })))

-- the buffer d afterwards: the text at its start, and the rest as it was; where it is refused, all as it was
unfoldable pub buffer_in : Session → List ℕ → List ℕ → List ℕ
buffer_in s l d =
    cond (ltb 0 s.span) d (cond (ltb (length d) buffer_least) d (overlay d 0 (text_of (explanation_of s l))))

-- 5 comes first
unfoldable pub told_of : Session → List ℕ → ℕ → Result Told Untold
told_of s l n = cond (sound s) (told_in s l n) (Err NotSound)

unfoldable pub buffer_of : Session → List ℕ → List ℕ → List ℕ
buffer_of s l d = cond (sound s) (buffer_in s l d) d

-- ---- in numbers

-- the number of a refusal, and its two values; and of what is said of a text, 0 where there is one
abbrev pub shown_untold : Untold → Shown
shown_untold NotSound = three 5 0 0
shown_untold (Running left) = three 8 left 0
shown_untold (Short n) = three 15 n 0

abbrev pub shown_told : Result Told Untold → Shown
shown_told (Ok t) = three 0 t.length 0
shown_told (Err e) = shown_untold e

-- the words that choose uses; none where it is refused
abbrev pub used_told : Result Told Untold → ℕ
used_told (Ok t) = t.used
used_told (Err e) = 0
