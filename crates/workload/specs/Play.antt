-- The code of the lines after the table: one line, and the loop. Assumes nothing.
use Rattle.std.specs.Prelude.{◌≡◌, ℕ, ◌+◌, ◌-◌, ◌*◌, ◌<◌, ◌≤◌, Bool, true, List, [], length, take, drop, ◌≢◌, slice_set, refl}
use Rattle.std.proofs.Common.{sym, ◌∙◌, drop-drop, lt-ltb}
use Rattle.std.proofs.Math.Path.{ap}
use native.Mathlib.Omega.{arith}
use Rattle.std.proofs.Math.ListN.{length-set}
use Rattle.decimal.specs.Buffer.{Wrote, Owing, owing_done}
use Rattle.lines.specs.declared.read.Call.{Call}
use Rattle.lines.specs.declared.read.Line.{Line}
use Rattle.lines.specs.declared.read.Line.TheVariants.{Row, Word, Call as CallLine, Empty, Unreadable}
use Rattle.lines.specs.Input.{input_text}
use Rattle.session.specs.declared.Session.{Session}
use Rattle.session.specs.declared.Outcome.{Outcome}
use Rattle.session.specs.Sound.{sound}
use Rattle.transcript.specs.Step.{queue_limit, call_of, step_of}
use Rattle.transcript.specs.Play.{queue_length, queue_push, call_used}
use Rattle.workload.specs.declared.play.Progress.{Progress}
use Rattle.workload.specs.Table.{row_count}
use Rattle.workload.specs.Trial.{Trial, trial_lines, given_after_call, onward, lines_from, call_lines}
use Rattle.workload.specs.Loose.{count_few}
use Rattle.workload.specs.Stands.{Stand, rows}

-- what the session, p and all words queued so far stand for
abbrev pub trial_in : Session → Progress → List ℕ → Trial
trial_in s p w = record { session = s; queue = drop p.from (take p.to w); number = p.number; given = p.given }

-- there is room for a word
pub record Ready (p : Progress) (w : List ℕ) : Type 0 where
  pub order : p.from ≤ p.to
  pub room : p.to < length w
  pub few : p.to ≤ 512

-- a line led from s and p to t and r, with the words v in place of w
pub record Went (y : Line) (s t : Session) (p r : Progress) (w v : List ℕ) : Type 0 where
  pub trial : trial_in t r v ≡ onward (trial_in s p w) y
  pub order : r.from ≤ r.to
  pub most : r.to ≤ p.to + 1
  pub places : length v ≡ length w

-- a line that is no call, with any session
pub record Aside (y : Line) (p r : Progress) (w v : List ℕ) : Type 0 where
  pub went : ((c : Call) → y ≢ CallLine c) → (s : Session) → Went y s s p r w v

-- after a call that used so many words
abbrev pub called_by : Progress → Call → ℕ → Progress
called_by p c used = record { from = p.from + used; to = p.to; number = p.number; given = given_after_call p.given c }

-- ---- one line

pub called_is : (p : Progress) (c : Call) (used : ℕ) (b : Bool) → b ≡ given_after_call p.given c
    → record { from = p.from + used; to = p.to; number = p.number; given = b } ≡ called_by p c used
called_is p c used b e = rw e

module _ (p : Progress) (w : List ℕ) (h : Ready p w) where
  abbrev queue : List ℕ
  queue = drop p.from (take p.to w)

  within : p.to ≤ length w
  within = omega (arith, h.room)

  pub went_word : (x : ℕ) → Aside (Word x) p (record { from = p.from; to = p.to + 1; number = x; given = true }) w (slice_set w p.to x)
  unfolding onward step_of
  went_word x =
      let few : length queue < queue_limit = omega (arith, queue_length w p.from p.to h.order within, h.few) in
      record {
        went = λ ne s. record {
          trial = simp (lt-ltb (length queue) queue_limit few, queue_push w p.from p.to h.order within x h.room);
          order = omega (arith, h.order);
          most = omega arith;
          places = length-set w p.to x;
        };
      }

  module _ (s : Session) (c : Call) (l : List ℕ) (e : l ≡ queue) (o : Outcome) (f : o ≡ call_of s l c) where
    pub used_within : p.from + o.used ≤ p.to
    used_within =
        omega (
          arith,
          h.order,
          ap length e,
          queue_length w p.from p.to h.order within,
          call_used s l c,
          ap (λ (z : Outcome). z.used) f,
        )

    pub went_call : (y : Line) (r : Progress) → y ≡ CallLine c → r ≡ called_by p c o.used → Went y s o.session p r w w
    unfolding onward step_of
    went_call y r k g =
        rw (k, g) (record {
          trial = rw (← e, ← f) (rw (sym (drop-drop o.used p.from (take p.to w)) ∙ ap (drop o.used) (sym e)) refl);
          order = used_within;
          most = omega arith;
          places = refl;
        })

-- the line that was met
module _ (p r : Progress) (w v : List ℕ) (y : Line) where
  pub aside_as : (x : Line) → y ≡ x → Aside x p r w v → Aside y p r w v
  aside_as x e g = rw e g

  pub aside_went : (s : Session) → ((c : Call) → y ≢ CallLine c) → Aside y p r w v → Went y s s p r w v
  aside_went s ne g = g.went ne s

-- a line that is neither a word nor a call leads to nothing
module _ (p : Progress) (w : List ℕ) (y : Line) (h : Ready p w) where
  stays : ((s : Session) → onward (trial_in s p w) y ≡ trial_in s p w) → Aside y p p w w
  stays e = record { went = λ ne s. record { trial = sym (e s); order = h.order; most = omega arith; places = refl } }

  pub aside_call : (c : Call) → y ≡ CallLine c → Aside y p p w w
  aside_call c e = record { went = λ ne. absurd (ne c e) }

  pub aside_row : (c t d : ℕ) → y ≡ Row c t d → Aside y p p w w
  unfolding onward step_of
  aside_row c t d e = stays (λ s. rw e)

  pub aside_empty : y ≡ Empty → Aside y p p w w
  unfolding onward step_of
  aside_empty e = stays (λ s. rw e)

  pub aside_unreadable : y ≡ Unreadable → Aside y p p w w
  unfolding onward step_of
  aside_unreadable e = stays (λ s. rw e)

pub ruleset aside_cases = (aside_as, aside_call, aside_row, aside_empty, aside_unreadable)

-- ---- the loop

-- the trial stands; shut, so that a search among the facts of the loop does not go through all that this says
pub data Held (seed : ℕ) (x : Trial) (done : List Line) : Type 0 where
  held : Stand seed x done → Held seed x done

pub stands : {seed : ℕ} {x : Trial} {done : List Line} → Held seed x done → Stand seed x done
stands (held h) = h

-- all lines are written up to what is owed now
pub record Playing (seed start : ℕ) (first : List ℕ) (s : Session) (p : Progress) (words out : List ℕ) (end left : ℕ) : Type 0 where
  pub done : List Line
  pub stand : Held seed (trial_in s p words) done
  pub lines : length done + left ≡ trial_lines - row_count seed
  pub order : p.from ≤ p.to
  pub queued : p.to ≤ length done
  pub places : length words ≡ 512
  pub room : start + 65 * (trial_lines - row_count seed) ≤ length first
  pub most : end ≤ start + 65 * length done
  pub owing : Owing (input_text (call_lines seed)) first start (input_text (lines_from left (trial_in s p words))) out end

module _ (seed start : ℕ) (first : List ℕ) (s : Session) (p : Progress) (words out : List ℕ) (end left : ℕ)
    (now : Playing seed start first s p words out end left) where
  abbrev x : Trial
  x = trial_in s p words

  pub play_rows : s.count ≤ 16
  play_rows = omega (arith, rows seed x now.done (stands now.stand), count_few seed)

  pub play_sound : sound s ≡ true
  play_sound = (stands now.stand).good.sound

  module _ (more : 0 < left) where
    pub play_ready : Ready p words
    play_ready = record {
      order = now.order;
      room = omega (arith, now.queued, now.lines, now.places);
      few = omega (arith, now.queued, now.lines);
    }

    pub play_room : end + 65 ≤ length out
    play_room = omega (arith, now.most, now.lines, now.room, now.owing.same)

  pub play_done : left ≤ 0 → Wrote (65 * (trial_lines - row_count seed)) (input_text (call_lines seed)) first out start end
  unfolding lines_from input_text
  play_done l =
      let z : left ≡ 0 = omega arith in
      let none : input_text (lines_from left x) ≡ [] = ap (λ (m : ℕ). input_text (lines_from m x)) z in
      owing_done _ _ _ _ _ _ now.owing (65 * (trial_lines - row_count seed)) none
      (omega (arith, now.owing.total, ap length none, now.most, now.lines))
