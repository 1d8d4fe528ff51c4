-- The output a part at a time: what the code of src/lib.rt keeps, and its cases. Assumes nothing.
use Rattle.std.specs.Prelude.{ℕ, suc, ◌+◌, ◌-◌, ◌≤◌, ◌<◌, ◌≡◌, Bool, ◌⊎◌, ltb, take, drop}
use Rattle.std.proofs.Math.Path.{refl, ap}
use Rattle.std.proofs.Common.{sym, ◌∙◌, true≢false, inl, inr, ⊎_elim, add-one, append-nil, arith, length-append, length-take, take_at, take_all}
use Rattle.std.proofs.Math.Bool.{true, false, cond}
use mathlib.Core.List.{List, [], ◌++◌, append_assoc}
use Rattle.std.proofs.Math.ListN.{length}
use borrow.Author.Tests.{lt-ltb, le-ltb, ltb-true, ltb-false}
use Rattle.bounded.specs.Tests.{both}
use Rattle.decimal.specs.Buffer.{overlay, Wrote, wrote_none, wrote_more, wrote_length}
use Rattle.lines.specs.declared.read.Call.{Call}
use Rattle.lines.specs.declared.read.Call.TheVariants.{Arrive, Choose, Advance, Finish}
use Rattle.lines.specs.declared.read.Line.{Line}
use Rattle.lines.specs.declared.read.Line.TheVariants.{Row, Word, Call as CallLine, Empty, Unreadable}
use Rattle.lines.specs.declared.read.Next.{Next}
use Rattle.lines.specs.Lines.{lines_of, lines_end, size_some, Took}
use Rattle.session.specs.declared.Session.{Session}
use Rattle.session.specs.Sound.{sound}
use Rattle.session.specs.Calls.{choose_of, choose_in}
use Rattle.report.specs.Text.{opinion_text}
use Rattle.wording.specs.Text.{text_of}
use Rattle.explain.specs.Explain.{explanation_of}
use Rattle.transcript.specs.declared.step.Play.{Play}
use Rattle.transcript.specs.declared.step.Stepped.{Stepped}
use Rattle.transcript.specs.declared.opening.State.{State}
use Rattle.transcript.specs.Step.{step_of}
use Rattle.transcript.specs.Transcript.{input_limit}
use Rattle.transcript.specs.Play.{queue_of, words_in, Ready, Did}
use Rattle.transcript.specs.Plays.{Reached, reached_first, reached_ready, reached_place, reached_next}
use Rattle.transcript.specs.Alone.{either_none}
use Rattle.transcript.specs.Opening.{opinion_in, Opened, opened_refused, opened_admitted}
use Rattle.narration.specs.Narration.{explanation_after, narrated_line, narrated_lines, narrated_of, narration_of}

-- ---- what is owed

-- the lines from the state's place on, unless all is told
abbrev lines_left : List ℕ → State → List ℕ → List ℕ
lines_left text t words = narrated_lines t.session (queue_of words t.play) t.play.line (lines_of (drop t.at text))

-- what is still to be written
unfoldable pub owed : List ℕ → State → List ℕ → List ℕ
owed text t words = cond t.play.over [] (lines_left text t words)

-- what a caller keeps to go on: unless all is told, a line is left, and the state and the words are what those before it led to
pub record Going (text : List ℕ) (t : State) (words : List ℕ) : Type 0 where
  pub reached : t.play.over ≡ false → Reached text t.session t.play words t.at
  pub left : t.play.over ≡ false → t.at < length text

-- the contract of `begin`: the output is what it wrote, followed by what is owed; any words will do
pub record Began (text : List ℕ) (r : State) (out : List ℕ) : Type 0 where
  pub output : (words : List ℕ) → narration_of text ≡ take r.play.end out ++ owed text r words
  pub fits : r.play.end ≤ length out
  pub going : (words : List ℕ) → length words ≡ 16384 → Going text r words

-- the contract of `more`: what was owed is what it wrote, followed by what is owed now; unless all was told, it got further
pub record Continued (text : List ℕ) (t r : State) (words words' out : List ℕ) : Type 0 where
  pub output : owed text t words ≡ take r.play.end out ++ owed text r words'
  pub fits : r.play.end ≤ length out
  pub going : Going text r words'
  pub further : t.play.over ≡ false → t.at < r.at

-- a line was written behind what was: that and what is owed, together, stay as they were
pub record LineTold (text : List ℕ) (t r : State) (words words' before after : List ℕ) : Type 0 where
  pub output : take t.play.end before ++ owed text t words ≡ take r.play.end after ++ owed text r words'
  pub fits : r.play.end ≤ length after
  pub same : length after ≡ length before
  pub places : length words' ≡ length words
  pub going : Going text r words'
  pub further : t.at < r.at

-- ---- `closed`

abbrev over_at : State → State
over_at t = record {
  session = t.session;
  play = record { from = t.play.from; to = t.play.to; line = t.play.line; end = t.play.end; over = true };
  at = t.at;
}

unfoldable pub closed_at_lem : State → ℕ → State
closed_at_lem t n = cond (ltb t.at n) t (over_at t)

pub closed_open : (t : State) (n : ℕ) → t.at < n → t ≡ closed_at_lem t n
unfolding closed_at_lem
closed_open t n h = sym (simp (lt-ltb t.at n h))

pub closed_over : (t : State) (n : ℕ) → n ≤ t.at → over_at t ≡ closed_at_lem t n
unfolding closed_at_lem
closed_over t n h = sym (simp (le-ltb t.at n h))

pub ruleset closed_cases = (closed_open, closed_over)

module _ (text : List ℕ) (t r : State) (words : List ℕ) (e : r ≡ closed_at_lem t (length text)) where
  pub closed_end : r.play.end ≡ t.play.end
  unfolding closed_at_lem
  closed_end = both (ltb t.at (length text)) (λ f. rw (e, f)) (λ f. rw (e, f))

  pub closed_at : r.at ≡ t.at
  unfolding closed_at_lem
  closed_at = both (ltb t.at (length text)) (λ f. rw (e, f)) (λ f. rw (e, f))

  -- with no line left nothing is owed
  pub closed_owed : t.at ≤ length text → owed text r words ≡ owed text t words
  unfolding closed_at_lem owed narrated_lines
  closed_owed h =
      both (ltb t.at (length text)) (λ f. rw (e, f))
      (λ f.
      let place : t.at ≡ length text = omega (arith, ltb-false t.at (length text) f) in
      let none : lines_of (drop t.at text) ≡ [] = ap (λ (n : ℕ). lines_of (drop n text)) place ∙ lines_end text in
      rw (e, f, none) (sym (either_none t.play.over)))

  pub closed_going : (t.play.over ≡ false → Reached text t.session t.play words t.at) → Going text r words
  unfolding closed_at_lem
  closed_going reached =
      both (ltb t.at (length text))
      (λ f. rw (e, f) record { reached = reached; left = λ z. ltb-true t.at (length text) f })
      (λ f. rw (e, f) record { reached = λ z. absurd (true≢false z); left = λ z. absurd (true≢false z) })

-- ---- `put_explanation`

module _ (s : Session) (q : List ℕ) (x : Line) (d : List ℕ) (at : ℕ) where
  none_put : explanation_after s q x ≡ [] → Wrote 1951 (explanation_after s q x) d d at at
  none_put e = rw e (wrote_none 1951 d at)

  pub put_other : ((c : Call) → x ≡ CallLine c → ⊥) → Wrote 1951 (explanation_after s q x) d d at at
  unfolding explanation_after
  put_other ne = none_put (by x ne)
    where
      by : (y : Line) → ((c : Call) → y ≡ CallLine c → ⊥) → explanation_after s q y ≡ []
      by (Row c t d) f = refl
      by (Word w) f = refl
      by (CallLine c) f = absurd (f c refl)
      by Empty f = refl
      by Unreadable f = refl

  module _ (c : Call) (e : x ≡ CallLine c) where
    pub put_call : (c ≡ Choose → ⊥) → Wrote 1951 (explanation_after s q x) d d at at
    unfolding explanation_after
    put_call ne = none_put (rw e (by c ne))
      where
        by : (y : Call) → (y ≡ Choose → ⊥) → explanation_after s q (CallLine y) ≡ []
        by (Arrive row) f = refl
        by Choose f = absurd (f refl)
        by (Advance n) f = refl
        by Finish f = refl

    module _ (f : c ≡ Choose) (h : sound s ≡ true) where
      pub put_refused : 0 < s.span → Wrote 1951 (explanation_after s q x) d d at at
      unfolding explanation_after choose_of choose_in
      put_refused k = none_put (rw (e, f) (simp (h, lt-ltb 0 s.span k)))

      pub put_accepted : (b : List ℕ) (r : ℕ) → s.span ≤ 0 → Wrote 1951 (text_of (explanation_of s q)) d b at r
          → Wrote 1951 (explanation_after s q x) d b at r
      unfolding explanation_after choose_of choose_in
      put_accepted b r k w = rw (e, f) (simp (h, le-ltb 0 s.span k) w)

pub ruleset put_cases = (put_other, put_call, put_refused, put_accepted)

-- ---- `tell_line`

-- what stands before a text and the text, taken together
wrote_taken : (m : ℕ) (x d e : List ℕ) (at r : ℕ) → at + length x ≤ length d → Wrote m x d e at r → take r e ≡ take at d ++ x
unfolding overlay
wrote_taken m x d e at r h w =
    rw w.buffer (take_at (take at d ++ x) (drop (at + length x) d) r (simp (length-append, length-take) (omega (arith, w.place))))

-- only the words waiting and the number of the line are of the state that is reached
reached_same : (text : List ℕ) (s : Session) (p r : Play) (words : List ℕ) (at : ℕ) → r.from ≡ p.from → r.to ≡ p.to → r.line ≡ p.line
    → Reached text s p words at → Reached text s r words at
reached_same text s p r words at f t l now = record {
  limit = now.limit;
  place = now.place;
  kept = now.kept;
  order = rw (f, t) now.order;
  places = now.places;
  queued = rw t now.queued;
  line = rw l now.line;
}

abbrev with_end : Play → ℕ → Play
with_end p e = record { from = p.from; to = p.to; line = p.line; end = e; over = p.over }

module _ (text : List ℕ) (t : State) (words before : List ℕ) (on : t.play.over ≡ false) (g : Going text t words) (room : t.play.end + 2037 ≤ length before) where
  pub line_sound : sound t.session ≡ true
  line_sound = (g.reached on).kept.sound

  pub line_ready : Ready t.play words before
  line_ready = reached_ready text t.session t.play words t.at (g.reached on) before (omega arith)

  pub line_left : t.at < length text
  line_left = g.left on

  module _ (n : Next) (k : Took text t.at n) where
    pub line_place : t.play.to + words_in n.line ≤ length words
    line_place = reached_place text t.session t.play words t.at (g.reached on) n k

    abbrev step_is : Stepped → List ℕ → List ℕ → Type 0
    step_is d words' middle =
        Did (words_in n.line) (step_of t.session (queue_of words t.play) t.play.line n.line) d.session t.play d.play words words' before middle

    module _ (d : Stepped) (words' middle : List ℕ) (did : step_is d words' middle) where
      abbrev answer : List ℕ
      answer = (step_of t.session (queue_of words t.play) t.play.line n.line).text

      fits : t.play.end + length answer ≤ length before
      fits = omega (arith, did.wrote.short, room)

      pub line_room : d.play.end + 1951 ≤ length middle
      line_room =
          omega (arith, did.wrote.short, did.wrote.place, wrote_length 86 answer before middle t.play.end d.play.end fits did.wrote, room)

      pub line_order : t.play.from ≤ t.play.to
      line_order = line_ready.order

      pub line_within : t.play.to ≤ length words'
      line_within = omega (arith, line_ready.within, did.words)

      module _ (q : List ℕ) (is : q ≡ queue_of words' t.play) (after : List ℕ) (e : ℕ)
          (w : Wrote 1951 (explanation_after t.session q n.line) middle after d.play.end e) where
        abbrev next : State
        next = record { session = d.session; play = with_end d.play e; at = n.at }

        abbrev told : List ℕ
        told = narrated_line t.session (queue_of words t.play) t.play.line n.line

        -- the words before the line
        waited : q ≡ queue_of words t.play
        waited = is ∙ ap (drop t.play.from) did.waited

        wrote : Wrote 2037 told before after t.play.end e
        unfolding narrated_line
        wrote =
            wrote_more 86 1951 answer (explanation_after t.session (queue_of words t.play) n.line) before middle after t.play.end d.play.end e
            fits did.wrote (rw waited at w)

        -- the line is what was owed first
        owed_line : owed text t words ≡ told ++ owed text next words'
        unfolding owed narrated_lines
        owed_line = rw (on, k.lines) (by d.play.over refl)
          where
            by : (b : Bool) → d.play.over ≡ b
                → told ++ cond (step_of t.session (queue_of words t.play) t.play.line n.line).ends []
                (narrated_lines (step_of t.session (queue_of words t.play) t.play.line n.line).session
                (step_of t.session (queue_of words t.play) t.play.line n.line).queue (suc t.play.line) (lines_of (drop n.at text)))
                ≡ told ++ owed text next words'
            by true f = rw (← did.over, f)
            by false f = rw (← did.over, f, ← did.session, ← did.queue, did.line f, add-one)

        pub line_told : (r : State) → r ≡ closed_at_lem next (length text) → LineTold text t r words words' before after
        unfolding owed
        line_told r c =
            let h : t.play.end + length told ≤ length before = omega (arith, wrote.short, room) in
            let same = wrote_length 2037 told before after t.play.end e h wrote in
            record {
              output =
                  rw (closed_end text next r words' c, closed_owed text next r words' c k.within, wrote_taken 2037 told before after t.play.end e h wrote, owed_line)
                  (sym (append_assoc (take t.play.end before) told (owed text next words')));
              fits = omega (arith, closed_end text next r words' c, wrote.place, h, same);
              same = same;
              places = did.words;
              going =
                  closed_going text next r words' c
                  (λ f. reached_same text d.session d.play (with_end d.play e) words' n.at refl refl refl
                  (reached_next text t.session t.play words t.at (g.reached on) n k d.session d.play words' before middle did f));
              further = omega (arith, closed_at text next r words' c, k.size, size_some n.line);
            }

pub ruleset line_laws = (line_sound, line_ready, line_left, line_place, line_room, line_order, line_within, line_told)

-- ---- `begin`

pub begun : (text : List ℕ) (t r : State) (before after : List ℕ) → length text ≤ input_limit → 1478 ≤ length before → Opened text t before after
    → r ≡ closed_at_lem t (length text) → Began text r after
unfolding narration_of narrated_of owed
begun text t r before after limit room o e =
    let printed : List ℕ = opinion_text (opinion_in text) in
    let h : 0 + length printed ≤ length before = omega (arith, o.wrote.short) in
    let front : take t.play.end after ≡ printed = wrote_taken 1478 printed before after 0 t.play.end h o.wrote in
    let all : narration_of text ≡ narrated_of (lines_of text) = ap (λ (x : List ℕ). narrated_of (lines_of x)) (take_all input_limit text limit) in
    record {
      output = λ words.
          all ∙ both t.play.over
          (λ f. opened_refused text t before after o narrated_lines f ∙ rw (closed_end text t r words e, front, closed_owed text t r words e o.place, f) (sym (append-nil printed)))
          (λ f. opened_admitted text t before after o narrated_lines f ∙ rw (closed_end text t r words e, front, closed_owed text t r words e o.place, f, o.from, o.to));
      fits =
          omega (arith, closed_end text t r [] e, o.wrote.place, h, wrote_length 1478 printed before after 0 t.play.end h o.wrote);
      going = λ words places.
          closed_going text t r words e
          (λ f. reached_first text t.session t.play words t.at limit o.place (o.admitted f).kept o.from o.to o.line places);
    }

-- ---- `more`

-- the state t, reached from t₀ with what stands in the buffer; either no line was gone over yet, or one was
pub record Telling (text : List ℕ) (t₀ : State) (words₀ out₀ : List ℕ) (t : State) (words out : List ℕ) : Type 0 where
  pub room : 2037 ≤ length out
  pub same : length out ≡ length out₀
  pub places : length words ≡ length words₀
  pub output : owed text t₀ words₀ ≡ take t.play.end out ++ owed text t words
  pub fits : t.play.end ≤ length out
  pub going : Going text t words
  pub further : ((t.play.end ≡ 0) × (t.at ≡ t₀.at) × (t.play.over ≡ t₀.play.over)) ⊎ (t₀.at < t.at)

-- a state with nothing in the buffer
abbrev rewound : State → State
rewound t = record { session = t.session; play = with_end t.play 0; at = t.at }

pub telling_start : (text : List ℕ) (t : State) (words out : List ℕ) → Going text t words → 2037 ≤ length out
    → Telling text (rewound t) words out (rewound t) words out
telling_start text t words out g room = record {
  room = room;
  same = refl;
  places = refl;
  output = refl;
  fits = omega arith;
  going = record {
    reached = λ z. reached_same text t.session t.play (with_end t.play 0) words t.at refl refl refl (g.reached z);
    left = g.left;
  };
  further = inl (refl, refl, refl);
}

module _ (text : List ℕ) (t₀ : State) (words₀ out₀ : List ℕ) (t : State) (words out : List ℕ) (now : Telling text t₀ words₀ out₀ t words out) where
  pub telling_next : (r : State) (words' out' : List ℕ) → LineTold text t r words words' out out' → Telling text t₀ words₀ out₀ r words' out'
  telling_next r words' out' l = record {
    room = omega (arith, l.same, now.room);
    same = l.same ∙ now.same;
    places = l.places ∙ now.places;
    output = now.output ∙ l.output;
    fits = l.fits;
    going = l.going;
    further = inr (⊎_elim (λ z. omega (arith, z.1, l.further)) (λ z. omega (arith, z, l.further)) now.further);
  }

  pub telling_less : (r : State) (words' out' : List ℕ) → t.play.over ≡ false → LineTold text t r words words' out out'
      → length text - r.at < length text - t.at
  telling_less r words' out' f l = omega (arith, l.further, now.going.left f)

module _ (text : List ℕ) (t₀ : State) (words₀ out₀ : List ℕ) (t : State) (words out : List ℕ) (now : Telling text (rewound t₀) words₀ out₀ t words out) where
  told_of : (t₀.play.over ≡ false → t₀.at < t.at) → Continued text t₀ t words₀ words out
  unfolding owed
  told_of h = record { output = now.output; fits = now.fits; going = now.going; further = h }

  -- the buffer is full, so that something was written
  pub telling_full : length out - t.play.end < 2037 → Continued text t₀ t words₀ words out
  telling_full h = told_of (λ z. ⊎_elim (λ y. absurd (omega (arith, y.0, now.room))) (λ y. y) now.further)

  pub telling_done : t.play.over ≡ true → Continued text t₀ t words₀ words out
  telling_done h = told_of (λ z. ⊎_elim (λ y. absurd (true≢false (sym h ∙ y.2 ∙ z))) (λ y. y) now.further)

pub ruleset telling_laws = (telling_start, telling_next, telling_full, telling_done, telling_less)

-- ---- for their caller

pub begun_going : (text : List ℕ) (r : State) (out words : List ℕ) → Began text r out → length words ≡ 16384 → Going text r words
begun_going text r out words b h = b.going words h

-- what is left of the text falls with each call
pub told_less : (text : List ℕ) (t r : State) (words words' out : List ℕ) → t.play.over ≡ false → Going text t words → Continued text t r words words' out
    → length text - r.at < length text - t.at
told_less text t r words words' out f g d = omega (arith, g.left f, d.further f)

pub ruleset caller_laws = (begun_going, told_less)
