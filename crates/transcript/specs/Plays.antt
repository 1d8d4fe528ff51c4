-- The loop over the lines after the table. Assumes nothing.
use Rattle.std.specs.Prelude.{ℕ, ◌+◌, ◌-◌, ◌*◌, ◌≤◌, ◌<◌, ◌≡◌, refl, true, false, List, [], ◌++◌, ltb, length, drop}
use Rattle.std.proofs.Math.Path.{sym}
use Rattle.std.proofs.Common.{ap, ◌∙◌, append-nil, arith}
use Rattle.std.proofs.Math.Numerals.{add-one}
use Rattle.bounded.specs.Tests.{both}
use Rattle.decimal.specs.Buffer.{Wrote, Owing, owing_start, owing_next, owing_last, owing_done}
use Rattle.lines.specs.declared.read.Call.{Call}
use Rattle.lines.specs.declared.read.Line.{Line}
use Rattle.lines.specs.declared.read.Line.TheVariants.{Row, Word, Call as CallLine, Empty, Unreadable}
use Rattle.lines.specs.declared.read.Next.{Next}
use Rattle.lines.specs.Lines.{lines_of, lines_end, least_size, size_some, Took}
use Rattle.session.specs.declared.Session.{Session}
use Rattle.session.specs.Sound.{sound}
use Rattle.transcript.specs.declared.step.Play.{Play}
use Rattle.transcript.specs.Step.{queue_limit, step_of, calls_text}
use Rattle.transcript.specs.Play.{queue_of, words_in, Ready, Did, Aside}
use Rattle.transcript.specs.Moves.{Moved, did_moved}
use Rattle.transcript.specs.Kept.{Kept, kept_call}
use Rattle.transcript.specs.Short.{open_short}

-- ---- what a step keeps

kept_step : (s : Session) (q : List ℕ) (n : ℕ) (x : Line) → Kept s → Kept (step_of s q n x).session
unfolding step_of
kept_step s q n (Row c t d) g = g
kept_step s q n (Word w) g = both (ltb (length q) queue_limit) (λ e. rw e g) (λ e. rw e g)
kept_step s q n (CallLine c) g = kept_call s g q c
kept_step s q n Empty g = g
kept_step s q n Unreadable g = g

-- a word's line takes four bytes
words_size : (x : Line) → 4 * words_in x ≤ least_size x
words_size (Row c t d) = omega arith
words_size (Word w) = omega arith
words_size (CallLine c) = omega arith
words_size Empty = omega arith
words_size Unreadable = omega arith

-- ---- a place that is reached

-- the lines up to place `at` are done, and output has not ended: s, p and the words are what they led to
pub record Reached (text : List ℕ) (s : Session) (p : Play) (words : List ℕ) (at : ℕ) : Type 0 where
  pub limit : length text ≤ 65536
  pub place : at ≤ length text
  pub kept : Kept s
  pub order : p.from ≤ p.to
  pub places : length words ≡ 16384
  pub queued : 4 * p.to ≤ at
  pub line : p.line ≤ at + 1

-- with no words yet
pub reached_first : (text : List ℕ) (s : Session) (p : Play) (words : List ℕ) (at : ℕ) → length text ≤ 65536 → at ≤ length text → Kept s
    → p.from ≡ 0 → p.to ≡ 0 → p.line ≤ at + 1 → length words ≡ 16384 → Reached text s p words at
reached_first text s p words at limit place kept from to line places = record {
  limit = limit;
  place = place;
  kept = kept;
  order = omega (arith, from, to);
  places = places;
  queued = omega (arith, to);
  line = line;
}

pub play_less : (text : List ℕ) (at : ℕ) (n : Next) → at < length text → Took text at n → length text - n.at < length text - at
play_less text at n h t = omega (arith, t.size, t.within, size_some n.line)

-- what a step needs, and what it keeps
pub reached_ready : (text : List ℕ) (s : Session) (p : Play) (words : List ℕ) (at : ℕ) → Reached text s p words at → (out : List ℕ)
    → p.end + 86 ≤ length out → Ready p words out
reached_ready text s p words at now out room = record {
  order = now.order;
  within = omega (arith, now.queued, now.places, now.limit, now.place);
  room = room;
  count = omega (arith, now.line, now.limit, now.place);
}

module _ (text : List ℕ) (s : Session) (p : Play) (words : List ℕ) (at : ℕ) (now : Reached text s p words at) (n : Next) (t : Took text at n) where
  pub reached_place : p.to + words_in n.line ≤ length words
  reached_place = omega (arith, now.queued, now.places, now.limit, t.size, t.within, words_size n.line)

  -- whatever is printed
  pub reached_moved : (s' : Session) (r : Play) (words' : List ℕ)
      → Moved (words_in n.line) (step_of s (queue_of words p) p.line n.line) s' p r words words' → r.over ≡ false
      → Reached text s' r words' n.at
  reached_moved s' r words' d e = record {
    limit = now.limit;
    place = t.within;
    kept = rw d.session (kept_step s (queue_of words p) p.line n.line now.kept);
    order = d.order;
    places = d.words ∙ now.places;
    queued = omega (arith, now.queued, d.most, t.size, words_size n.line);
    line = omega (arith, d.line e, now.line, t.size, size_some n.line);
  }

  pub reached_next : (s' : Session) (r : Play) (words' out out' : List ℕ)
      → Did (words_in n.line) (step_of s (queue_of words p) p.line n.line) s' p r words words' out out' → r.over ≡ false
      → Reached text s' r words' n.at
  reached_next s' r words' out out' d e = reached_moved s' r words' (did_moved d) e

-- ---- the loop

-- room for the text of all lines of an input, with 1,478 bytes for what is printed of the table and 86 for a last line `?`
abbrev pub room_of : List ℕ → ℕ
room_of text = 1564 + 22 * length text

-- what is still to be written: the lines from place `at` on
abbrev pub owed : List ℕ → Session → Play → List ℕ → ℕ → List ℕ
owed text s p words at = calls_text s (queue_of words p) p.line (lines_of (drop at text))

-- where the loop starts: at place `start`, with no words
pub record Begun (text : List ℕ) (start : ℕ) (s : Session) (p : Play) (out : List ℕ) : Type 0 where
  pub limit : length text ≤ 65536
  pub place : start ≤ length text
  pub kept : Kept s
  pub from : p.from ≡ 0
  pub to : p.to ≡ 0
  pub line : p.line ≤ start + 1
  pub end : p.end ≤ 1478 + 22 * start
  pub room : room_of text ≤ length out

-- all that was owed at first is written up to what is owed now
pub record Playing (text : List ℕ) (start : ℕ) (s₀ : Session) (p₀ : Play) (first : List ℕ) (s : Session) (p : Play) (words out : List ℕ) (at : ℕ) : Type 0 where
  pub begun : Begun text start s₀ p₀ first
  pub reached : Reached text s p words at
  pub end : p.end ≤ 1478 + 22 * at
  pub owing : Owing (owed text s₀ p₀ [] start) first p₀.end (owed text s p words at) out p.end

pub play_start : (text : List ℕ) (start : ℕ) (s : Session) (p : Play) (first words : List ℕ) → Begun text start s p first → length words ≡ 16384
    → Playing text start s p first s p words first start
play_start text start s p first words begun h = record {
  begun = begun;
  reached = reached_first text s p words start begun.limit begun.place begun.kept begun.from begun.to begun.line h;
  end = begun.end;
  owing = owing_start (owed text s p [] start) first p.end (owed text s p words start) (rw (begun.from, begun.to));
}

module _ (text : List ℕ) (start : ℕ) (s₀ : Session) (p₀ : Play) (first : List ℕ) (s : Session) (p : Play) (words out : List ℕ) (at : ℕ)
    (now : Playing text start s₀ p₀ first s p words out at) where
  -- all that was owed, written to the buffer as it was
  abbrev Whole : ℕ → List ℕ → Type 0
  Whole r after = Wrote (room_of text - p₀.end) (owed text s₀ p₀ [] start) first after p₀.end r

  owed_none : at ≡ length text → owed text s p words at ≡ []
  unfolding calls_text
  owed_none e = rw (e, lines_end text)

  pub play_done : length text ≤ at → Whole p.end out
  play_done h =
      let none = owed_none (omega (arith, now.reached.place)) in
      owing_done _ _ _ _ _ _ now.owing (room_of text - p₀.end) none
      (omega (arith, now.owing.total, ap length none, now.end, now.reached.place))

  pub play_sound : sound s ≡ true
  play_sound = now.reached.kept.sound

  pub play_ready : at < length text → Ready p words out
  play_ready h = reached_ready text s p words at now.reached out (omega (arith, now.end, now.owing.same, now.begun.room))

  module _ (n : Next) (t : Took text at n) where
    pub play_place : p.to + words_in n.line ≤ length words
    play_place = reached_place text s p words at now.reached n t

    module _ (s' : Session) (r : Play) (words' out' : List ℕ)
        (d : Did (words_in n.line) (step_of s (queue_of words p) p.line n.line) s' p r words words' out out') where
      owed_over : r.over ≡ true → owed text s p words at ≡ (step_of s (queue_of words p) p.line n.line).text
      unfolding calls_text
      owed_over e = rw (t.lines, sym d.over ∙ e) (append-nil _)

      owed_more : r.over ≡ false
          → owed text s p words at ≡ (step_of s (queue_of words p) p.line n.line).text ++ owed text s' r words' n.at
      unfolding calls_text
      owed_more e = rw (t.lines, sym d.over ∙ e, d.line e, add-one, d.session, d.queue)

      play_over : r.over ≡ true → Whole r.end out'
      play_over e =
          owing_last _ _ _ _ _ _ now.owing 86 (room_of text - p₀.end) (step_of s (queue_of words p) p.line n.line).text out' r.end (owed_over e) d.wrote
          (omega (arith, d.wrote.short, now.owing.total, now.end, ap length (owed_over e), now.reached.place))

      pub play_next : r.over ≡ false → Playing text start s₀ p₀ first s' r words' out' n.at
      play_next e =
          let x = step_of s (queue_of words p) p.line n.line in
          let short = open_short s now.reached.kept (queue_of words p) p.line n.line (sym d.over ∙ e) d.wrote.short in
          let fits : p.end + length x.text ≤ length out =
          omega (arith, d.wrote.short, now.end, now.owing.same, now.begun.room, now.reached.place) in
          record {
            begun = now.begun;
            reached = reached_next text s p words at now.reached n t s' r words' out out' d e;
            end = omega (arith, d.wrote.place, short, now.end, t.size);
            owing = owing_next _ _ _ _ _ _ now.owing 86 x.text (owed text s' r words' n.at) out' r.end (owed_more e) fits d.wrote;
          }

    -- a line that is no call may end the output
    pub play_ends : (r : Play) (words' out' : List ℕ) → ((c : Call) → n.line ≡ CallLine c → ⊥) → Aside s.clock n.line p r words words' out out'
        → r.over ≡ true → Whole r.end out'
    play_ends r words' out' e q o = play_over s r words' out' (q.did e s refl) o

pub ruleset play_laws = (play_start, play_less, play_sound, play_ready, play_place, play_ends, play_next, play_done)
