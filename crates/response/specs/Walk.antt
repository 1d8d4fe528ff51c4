-- The loop over the lines after the table. Assumes nothing.
use Rattle.std.specs.Prelude.{ℕ, zero, suc, ◌+◌, ◌-◌, ◌*◌, ◌≤◌, ◌<◌, ◌≡◌, refl, false, cond, length, drop, get_or, replicate}
use Rattle.std.proofs.Math.Path.{sym, ap}
use Rattle.std.proofs.Common.{subst, ◌∙◌, true≢false, add-one, arith}
use Rattle.std.proofs.Math.Bool.{true}
use mathlib.Core.List.{List, [], ◌∷◌, ◌++◌, append_assoc, append-nil}
use Rattle.std.proofs.Math.Dec.{ltb}
use borrow.Author.Tests.{lt-ltb, ltb-true, ltb-false}
use Rattle.bounded.specs.Tests.{both}
use Rattle.bounded.specs.Fold.{fold_to}
use Rattle.decimal.specs.Buffer.{Wrote, wrote_length, Owing, owing_start, owing_next, owing_last}
use Rattle.decimal.specs.Joined.{join_to}
use Rattle.edf.specs.Demand.{TaskSet}
use Rattle.lines.specs.declared.read.Call.{Call}
use Rattle.lines.specs.declared.read.Call.TheVariants.{Arrive, Choose, Advance, Finish}
use Rattle.lines.specs.declared.read.Line.{Line}
use Rattle.lines.specs.declared.read.Line.TheVariants.{Row, Word, Call as CallLine, Empty, Unreadable}
use Rattle.lines.specs.declared.read.Next.{Next}
use Rattle.lines.specs.Lines.{lines_of, lines_end, least_size, Took}
use Rattle.table.specs.Rows.{tasks_of, Fit}
use Rattle.table.specs.Verdict.{opinion_of}
use Rattle.table.proofs.TheoremsLaws.{opinion_fit}
use Rattle.session.specs.declared.Session.{Session}
use Rattle.session.specs.declared.Answer.{Answer}
use Rattle.session.specs.Reading.{job_at, waits}
use Rattle.session.specs.Facts.{Choice, facts_of}
use Rattle.session.specs.declared.Outcome.{Outcome}
use Rattle.session.specs.Calls.{Shown, shown}
use Rattle.session.specs.Start.{no_session, session_of}
use Rattle.calls.specs.Code.{in_force}
use Rattle.guarantee.specs.Ledger.{arrive, advance, Event, Ledger, empty, kept}
use Rattle.guarantee.specs.Statement.{outcome_of}
use Rattle.guarantee.specs.Effects.{Effect, refusal, arrived, advanced, effect_of}
use Rattle.guarantee.specs.History.{counts_after}
use Rattle.guarantee.specs.Responds.{reached_fresh}
use Rattle.guarantee.specs.After.{event_of}
use Rattle.transcript.specs.declared.step.Play.{Play}
use Rattle.transcript.specs.Step.{Step, queue_limit, step_of, call_of}
use Rattle.transcript.specs.Kept.{Kept, as_call, call_is}
use Rattle.transcript.specs.Play.{queue_of, words_in, queue_length, Ready, Did}
use Rattle.transcript.specs.Moves.{Moved, call_moves}
use Rattle.transcript.specs.Plays.{Reached, reached_first, reached_ready, reached_place, reached_moved, reached_next, play_less}
use Rattle.response.specs.Jobs.{Item, item_text, items_text, latest_of, ended_by, ended_items, pending_item, pending_items}
use Rattle.response.specs.Plan.{Noted, note_of, items_from}
use Rattle.response.specs.Watch.{Watched, tallied, watched_call, watched_deadline, pending_some, pending_none, ended_some, ended_none, ended_row}
use Rattle.response.specs.Responses.{Responses}
use Rattle.response.specs.Put.{Legible, Finishing, pending_text, pendings_text}
use Rattle.response.specs.Note.{ends_words, Tallying, Ending, end_text, over_in, Calling, NoteDid, Stepping, StepDid, called, aside}

-- ---- texts

items_more : (a b : List Item) → items_text (a ++ b) ≡ items_text a ++ items_text b
unfolding items_text
items_more [] b = refl
items_more (x ∷ a) b = rw (items_more a b) (sym (append_assoc (item_text x) (items_text a) (items_text b)))

items_joined : (f : ℕ → List Item) (g : ℕ → List ℕ) (n : ℕ) → ((i : ℕ) → i < n → items_text (f i) ≡ g i) → items_text (fold_to (λ l i. l ++ f i) [] n) ≡ join_to g n
unfolding fold_to join_to items_text
items_joined f g zero h = refl
items_joined f g (suc n) h =
    items_more (fold_to (λ l i. l ++ f i) [] n) (f n) ∙ rw (items_joined f g n (λ i l. h i (omega arith)), h n (omega arith))

-- ---- what the ledger says is what the session says

module _ (l : List ℕ) (g : Ledger) (cs : List ℕ) (s : Session) (xs : List ℕ) (w : Watched l g cs s xs) where
  pendings_are : items_text (pending_items (tasks_of l) g cs) ≡ pendings_text (tasks_of l) s xs
  unfolding pending_items pendings_text pending_text items_text
  pendings_are =
      items_joined (pending_item (tasks_of l) g cs) (pending_text (tasks_of l) s xs) (tasks_of l).rows
      (λ i h. both (ltb 0 (job_at s i).left)
      (λ t. rw (pending_some w i (omega (arith, w.reached.good.count)) (ltb_some t)) (simp t (append-nil _)))
      (λ t. rw (pending_none w i (ltb_none t)) (simp t)))
    where
      ltb_some : {x : ℕ} → ltb 0 x ≡ true → 1 ≤ x
      ltb_some {x} t = ltb-true 0 x t

      ltb_none : {x : ℕ} → ltb 0 x ≡ false → x ≡ 0
      ltb_none {x} t = omega (arith, ltb-false 0 x t)

  legible : (spans : List ℕ) → Responses (tasks_of l) spans → Legible (tasks_of l) spans s xs
  unfolding waits
  legible spans r = record {
    fit = w.reached.good.fit;
    table = r;
    row = λ i h some.
        let good = w.reached.good in
        let facts = facts_of s good.sound in
        let k : i < s.count = omega (arith, good.count) in
        let rule = good.fit.row i h in
        let job = good.safe.formed i h (lt-ltb 0 (job_at s i).left some) in
        record {
          fit = good.fit;
          table = r;
          known = h;
          after = watched_deadline w i some;
          soon = omega (arith, job.deadline, facts.next i k, facts.clock, rule.apart, rule.limit, ap (λ (z : List ℕ). (tasks_of z).T i) good.rows);
          less = omega (arith, w.small i, facts.clock);
        };
  }

-- an accepted arrive is of a row of the table, and accepted ticks are of a choice in force
accepted_row : {s s' : Session} {a : Answer} (k : ℕ) → Effect s (arrive k) s' a → (shown a).number ≡ 0 → k < s.count
accepted_row k (refusal a six) z = absurd (omega arith)
accepted_row k (arrived i row ready) z = row

accepted_ticks : {s : Session} (n : ℕ) {s' : Session} {a : Answer} → Effect s (advance n) s' a → (shown a).number ≡ 0 → Choice s × (n ≤ s.span)
accepted_ticks n (refusal a six) z = absurd (omega arith)
accepted_ticks n (advanced m ch high end) z = (ch, high)

module _ (l : List ℕ) (g : Ledger) (cs : List ℕ) (s : Session) (xs : List ℕ) (w : Watched l g cs s xs) (q : List ℕ) (c : Call) where
  abbrev event : Event
  event = event_of s (as_call q c)

  abbrev answer : Shown
  answer = shown (call_of s q c).answer

  answer_is : event.answer ≡ answer
  answer_is = ap (λ (o : Outcome). shown o.answer) (call_is s q c)

  over_is : ended_by (as_call q c) event.answer ≡ over_in s q c
  over_is = ap (ended_by (as_call q c)) answer_is ∙ ends_words q c answer

  calling_ending : Ending (tasks_of l) s (over_in s q c)
  calling_ending = record {
    row = λ e.
        let r = ended_row l g cs s xs w (as_call q c) (over_is ∙ e) in
        (omega (arith, r.0, w.reached.good.count), r.1);
  }

  calling_tallying : Tallying s c answer.number xs
  calling_tallying =
      let good = w.reached.good in
      let facts = facts_of s good.sound in
      record {
        row = λ k e z. omega (arith, facts.few, accepted_row k (effect k e) (number k e z));
        ageing = λ n e z.
            let t = accepted_ticks n (ticks n e) (elapsed n e z) in
            record {
              bounds = in_force s good.sound (λ y. omega (arith, t.0.some));
              small = λ i. omega (arith, w.small i, facts.clock);
              ticks = omega (arith, t.1, t.0.small);
            };
      }
    where
      effect : (k : ℕ) → c ≡ Arrive k → Effect s (arrive k) (outcome_of s (arrive k)).session (outcome_of s (arrive k)).answer
      effect k e = effect_of s w.reached.good.sound (arrive k)

      number : (k : ℕ) → c ≡ Arrive k → answer.number ≡ 0 → (shown (outcome_of s (arrive k)).answer).number ≡ 0
      number k e z = ap (λ (y : Call). (shown (outcome_of s (as_call q y)).answer).number) (sym e) ∙ ap (λ (y : Shown). y.number) answer_is ∙ z

      ticks : (n : ℕ) → c ≡ Advance n → Effect s (advance n) (outcome_of s (advance n)).session (outcome_of s (advance n)).answer
      ticks n e = effect_of s w.reached.good.sound (advance n)

      elapsed : (n : ℕ) → c ≡ Advance n → answer.number ≡ 0 → (shown (outcome_of s (advance n)).answer).number ≡ 0
      elapsed n e z = ap (λ (y : Call). (shown (outcome_of s (as_call q y)).answer).number) (sym e) ∙ ap (λ (y : Shown). y.number) answer_is ∙ z

  -- what the call leads to
  watched_next : Watched l (kept (tasks_of l) g event) (counts_after (tasks_of l) g cs event) (call_of s q c).session (tallied s (as_call q c) answer.number xs)
  watched_next =
      subst
      (λ (o : Outcome). Watched l (kept (tasks_of l) g event) (counts_after (tasks_of l) g cs event) o.session
      (tallied s (as_call q c) (shown o.answer).number xs))
      (call_is s q c) (watched_call l g cs s xs w (as_call q c))

  -- and prints
  ended_text : items_text (ended_items (tasks_of l) (kept (tasks_of l) g event) (counts_after (tasks_of l) g cs event) event)
      ≡ end_text (tasks_of l) s (over_in s q c) (call_of s q c).session.clock xs
  unfolding end_text items_text
  ended_text =
      both (over_in s q c)
      (λ e. rw (ended_some l g cs s xs w (as_call q c) (over_is ∙ e)) (simp e (rw (call_is s q c) (append-nil _))))
      (λ e. rw (ended_none l g cs s xs w (as_call q c) (over_is ∙ e)) (simp e))

-- ---- a line that is no call

module _ (τ : TaskSet) (g : Ledger) (cs : List ℕ) (s : Session) (q : List ℕ) (n : ℕ) where
  aside_text : (x : Line) → ((c : Call) → x ≡ CallLine c → ⊥) → items_text (note_of τ g cs s q n x).items ≡ (step_of s q n x).text
  unfolding note_of items_text step_of
  aside_text (Row c t d) ne = append-nil _
  aside_text (Word w) ne = both (ltb (length q) queue_limit) (λ e. simp e) (λ e. simp e (append-nil _))
  aside_text (CallLine c) ne = absurd (ne c refl)
  aside_text Empty ne = append-nil _
  aside_text Unreadable ne = append-nil _

  aside_ledger : (x : Line) → ((c : Call) → x ≡ CallLine c → ⊥) → ((note_of τ g cs s q n x).ledger ≡ g) × ((note_of τ g cs s q n x).counts ≡ cs)
  unfolding note_of
  aside_ledger (Row c t d) ne = (refl, refl)
  aside_ledger (Word w) ne = (refl, refl)
  aside_ledger (CallLine c) ne = absurd (ne c refl)
  aside_ledger Empty ne = (refl, refl)
  aside_ledger Unreadable ne = (refl, refl)

-- one that goes on prints nothing
open_none : (s : Session) (q : List ℕ) (n : ℕ) (x : Line) → ((c : Call) → x ≡ CallLine c → ⊥) → (step_of s q n x).ends ≡ false → length (step_of s q n x).text ≡ 0
unfolding step_of
open_none s q n (Row c t d) ne e = absurd (true≢false e)
open_none s q n (Word w) ne e = both (ltb (length q) queue_limit) (λ f. simp f) (λ f. absurd (true≢false (simp f at e)))
open_none s q n (CallLine c) ne e = absurd (ne c refl)
open_none s q n Empty ne e = absurd (true≢false e)
open_none s q n Unreadable ne e = absurd (true≢false e)

-- a call's line has two bytes at least
call_size : (x : Line) (c : Call) → x ≡ CallLine c → 2 ≤ least_size x
call_size x (Arrive row) e = rw e (omega arith)
call_size x Choose e = rw e (omega arith)
call_size x (Advance n) e = rw e (omega arith)
call_size x Finish e = rw e (omega arith)

-- ---- the loop

-- room for the text of all lines of an input, with 28,870 bytes for what is printed of the table, 86 for a line `?` and 2,048 for the jobs
-- that still wait
abbrev pub room_of : List ℕ → ℕ
room_of text = 31004 + 64 * length text

-- what is still to be written: the lines from place `at` on, and the jobs that then wait
abbrev owed : List ℕ → List ℕ → Ledger → List ℕ → Session → Play → List ℕ → ℕ → List ℕ
owed text l g cs s p q at = items_text (items_from (tasks_of l) g cs s q p.line (lines_of (drop at text)))

-- at first, with no words and an empty ledger
abbrev pub owed_first : List ℕ → List ℕ → ℕ → Session → Play → List ℕ
owed_first text l start s p = owed text l empty [] s p [] start

-- where the loop starts: at place `start`, from the fresh session of the table l
pub record Begun (text l : List ℕ) (start : ℕ) (s : Session) (p : Play) (out : List ℕ) : Type 0 where
  pub limit : length text ≤ 65536
  pub place : start ≤ length text
  pub admitted : (opinion_of l).number ≡ 0
  pub fresh : s ≡ session_of l
  pub kept : Kept s
  pub from : p.from ≡ 0
  pub to : p.to ≡ 0
  pub line : p.line ≤ start + 1
  pub end : p.end ≤ 28870
  pub room : room_of text ≤ length out

-- all that was owed at first is written up to what is owed now. The code keeps no ledger; there is one that it follows. Of the fields only
-- the first two are for others, who use its laws.
pub record Walking (text l : List ℕ) (start : ℕ) (s₀ : Session) (p₀ : Play) (first spans : List ℕ) (s : Session) (p : Play) (xs words out : List ℕ) (at : ℕ) : Type 0 where
  -- for the code
  pub same : length out ≡ length first
  pub places : length words ≡ 16384
  begun : Begun text l start s₀ p₀ first
  table : Responses (tasks_of l) spans
  ledger : Ledger
  counts : List ℕ
  watched : Watched l ledger counts s xs
  reached : Reached text s p words at
  end : p.end ≤ 28870 + 64 * at
  owing : Owing (owed_first text l start s₀ p₀) first p₀.end (owed text l ledger counts s p (queue_of words p) at) out p.end

-- a list of the same numbers
same_at : (n i z : ℕ) → get_or (replicate n z) i z ≡ z
same_at zero i z = refl
same_at (suc n) zero z = refl
same_at (suc n) (suc i) z = same_at n i z

module _ (text l : List ℕ) (start : ℕ) (s : Session) (p : Play) (first : List ℕ) (begun : Begun text l start s p first) where
  pub walk_fit : Fit (tasks_of l)
  walk_fit = opinion_fit l begun.admitted

  watched_first : Watched l empty [] s (replicate 16 0)
  unfolding latest_of
  watched_first = record {
    reached = rw begun.fresh (reached_fresh l begun.admitted no_session);
    counts = λ i h some. sym (same_at 16 i 0);
    small = λ i. omega (arith, same_at 16 i 0);
    places = refl;
  }

  pub walk_start : (spans words : List ℕ) → Responses (tasks_of l) spans → length words ≡ 16384
      → Walking text l start s p first spans s p (replicate 16 0) words first start
  walk_start spans words r h = record {
    same = refl;
    places = h;
    begun = begun;
    table = r;
    ledger = empty;
    counts = [];
    watched = watched_first;
    reached = reached_first text s p words start begun.limit begun.place begun.kept begun.from begun.to begun.line h;
    end = omega (arith, begun.end);
    owing =
        owing_start (owed_first text l start s p) first p.end (owed text l empty [] s p (queue_of words p) start)
        (rw (begun.from, begun.to));
  }

module _ (text l : List ℕ) (start : ℕ) (s₀ : Session) (p₀ : Play) (first spans : List ℕ) (s : Session) (p : Play) (xs words out : List ℕ) (at : ℕ)
    (now : Walking text l start s₀ p₀ first spans s p xs words out at) where
  -- all that was owed, written to the buffer as it was
  abbrev Whole : ℕ → List ℕ → Type 0
  Whole r after = Wrote (room_of text - p₀.end) (owed_first text l start s₀ p₀) first after p₀.end r

  walk_legible : Legible (tasks_of l) spans s xs
  walk_legible = legible l now.ledger now.counts s xs now.watched spans now.table

  -- ---- the end of the input

  owed_none : at ≡ length text → owed text l now.ledger now.counts s p (queue_of words p) at ≡ pendings_text (tasks_of l) s xs
  unfolding items_from
  owed_none e = rw (e, lines_end text) (pendings_are l now.ledger now.counts s xs now.watched)

  walk_room : p.end + 2134 ≤ length out
  walk_room = omega (arith, now.end, now.owing.same, now.begun.room, now.reached.place)

  pub walk_done : (after : List ℕ) (r : ℕ) → length text ≤ at → Wrote 2048 (pendings_text (tasks_of l) s xs) out after p.end r → Whole r after
  walk_done after r h w =
      let rest = owed_none (omega (arith, now.reached.place)) in
      owing_last _ _ _ _ _ _ now.owing 2048 (room_of text - p₀.end) (pendings_text (tasks_of l) s xs) after r rest w
      (omega (arith, now.owing.total, ap length rest, w.short, now.end, now.reached.place))

  walk_ready : at < length text → Ready p words out
  walk_ready h = reached_ready text s p words at now.reached out (omega (arith, walk_room))

  module _ (n : Next) (t : Took text at n) where
    walk_place : p.to + words_in n.line ≤ length words
    walk_place = reached_place text s p words at now.reached n t

    abbrev note : Noted
    note = note_of (tasks_of l) now.ledger now.counts s (queue_of words p) p.line n.line

    abbrev step : Step
    step = step_of s (queue_of words p) p.line n.line

    -- what is owed is what the line prints and what is owed after it
    owed_line : owed text l now.ledger now.counts s p (queue_of words p) at
        ≡ items_text note.items ++ items_text (cond step.ends (pending_items (tasks_of l) note.ledger note.counts)
        (items_from (tasks_of l) note.ledger note.counts step.session step.queue (suc p.line) (lines_of (drop n.at text))))
    unfolding items_from
    owed_line = rw t.lines (items_more note.items _)

    -- ---- a line that is no call

    module _ (ne : (c : Call) → n.line ≡ CallLine c → ⊥) (r : Play) (words' out' : List ℕ) (did : Did (words_in n.line) step s p r words words' out out') where
      text_is : items_text note.items ≡ step.text
      text_is = aside_text (tasks_of l) now.ledger now.counts s (queue_of words p) p.line n.line ne

      same : (note.ledger ≡ now.ledger) × (note.counts ≡ now.counts)
      same = aside_ledger (tasks_of l) now.ledger now.counts s (queue_of words p) p.line n.line ne

      fits : p.end + length step.text ≤ length out
      fits = omega (arith, did.wrote.short, walk_room)

      -- it goes on: nothing is printed
      owed_aside : r.over ≡ false
          → owed text l now.ledger now.counts s p (queue_of words p) at
          ≡ step.text ++ owed text l now.ledger now.counts s r (queue_of words' r) n.at
      owed_aside e =
          owed_line ∙ rw (text_is, same.0, same.1, sym did.over ∙ e, did.line e, add-one, ← did.session, did.queue)

      aside_none : r.over ≡ false → length step.text ≡ 0
      aside_none e = open_none s (queue_of words p) p.line n.line ne (sym did.over ∙ e)

      walk_aside : r.over ≡ false → Walking text l start s₀ p₀ first spans s r xs words' out' n.at
      walk_aside e = record {
        same = wrote_length 86 step.text out out' p.end r.end fits did.wrote ∙ now.same;
        places = did.words ∙ now.places;
        begun = now.begun;
        table = now.table;
        ledger = now.ledger;
        counts = now.counts;
        watched = now.watched;
        reached = reached_next text s p words at now.reached n t s r words' out out' did e;
        end = omega (arith, did.wrote.place, aside_none e, now.end, t.size);
        owing = owing_next _ _ _ _ _ _ now.owing 86 step.text _ out' r.end (owed_aside e) fits did.wrote;
      }

      -- it ends the reading
      owed_ends : r.over ≡ true
          → owed text l now.ledger now.counts s p (queue_of words p) at ≡ step.text ++ pendings_text (tasks_of l) s xs
      owed_ends e =
          owed_line ∙ rw (text_is, same.0, same.1, sym did.over ∙ e, pendings_are l now.ledger now.counts s xs now.watched)

      walk_ends : (after : List ℕ) (k : ℕ) → r.over ≡ true → Wrote 2048 (pendings_text (tasks_of l) s xs) out' after r.end k → Whole k after
      walk_ends after k e w =
          let rest = owed_ends e in
          let next = owing_next _ _ _ _ _ _ now.owing 86 step.text (pendings_text (tasks_of l) s xs) out' r.end rest fits did.wrote in
          owing_last _ _ _ _ _ _ next 2048 (room_of text - p₀.end) (pendings_text (tasks_of l) s xs) after k refl w
          (omega (arith, next.total, w.short, did.wrote.place, did.wrote.short, now.end, t.size, t.within))

    -- ---- a call

    module _ (c : Call) (is : n.line ≡ CallLine c) (q : List ℕ) (e : q ≡ queue_of words p) (h : at < length text) where
      walk_calling : Calling (tasks_of l) spans s xs c q p out
      walk_calling =
          let ready = walk_ready h in
          record {
            legible = walk_legible;
            sound = now.reached.kept.sound;
            ending = calling_ending l now.ledger now.counts s xs now.watched q c;
            tallying = calling_tallying l now.ledger now.counts s xs now.watched q c;
            order = omega (arith, ap length e, queue_length words p.from p.to ready.order ready.within, ready.order);
            count = ready.count;
            room = omega (arith, walk_room);
          }

      module _ (s' : Session) (r : Play) (xs' out' : List ℕ) (d : NoteDid (tasks_of l) s p xs c q s' r xs' out out') where
        moved : Moved (words_in n.line) step s' p r words words
        moved = rw (is, d.session) (call_moves s c p q words out (walk_ready h) e (call_of s q c) refl r d.passes)

        abbrev line : List ℕ
        line = end_text (tasks_of l) s (over_in s q c) (call_of s q c).session.clock xs

        line_is : items_text note.items ≡ line
        unfolding note_of
        line_is = rw (is, ← e) (ended_text l now.ledger now.counts s xs now.watched q c)

        watched : Watched l note.ledger note.counts s' xs'
        unfolding note_of
        watched = rw (is, ← e, d.session, d.counts) (watched_next l now.ledger now.counts s xs now.watched q c)

        owed_call : owed text l now.ledger now.counts s p (queue_of words p) at
            ≡ line ++ owed text l note.ledger note.counts s' r (queue_of words r) n.at
        owed_call =
            owed_line ∙ rw (line_is, sym moved.over ∙ d.passes.over, d.passes.line, add-one, moved.session, moved.queue)

        short : length line ≤ 64 * least_size n.line
        short = omega (arith, d.wrote.short, call_size n.line c is)

        call_fits : p.end + length line ≤ length out
        call_fits = omega (arith, d.wrote.short, walk_room)

        walk_next : Walking text l start s₀ p₀ first spans s' r xs' words out' n.at
        walk_next = record {
          same = wrote_length 128 line out out' p.end r.end call_fits d.wrote ∙ now.same;
          places = now.places;
          begun = now.begun;
          table = now.table;
          ledger = note.ledger;
          counts = note.counts;
          watched = watched;
          reached = reached_moved text s p words at now.reached n t s' r words moved d.passes.over;
          end = omega (arith, d.wrote.place, short, now.end, t.size);
          owing = owing_next _ _ _ _ _ _ now.owing 128 line _ out' r.end owed_call call_fits d.wrote;
        }

-- ---- a line of any kind, and the end

module _ (text l : List ℕ) (start : ℕ) (s₀ : Session) (p₀ : Play) (first spans : List ℕ) (s : Session) (p : Play) (xs words out : List ℕ) (at : ℕ)
    (now : Walking text l start s₀ p₀ first spans s p xs words out at) where
  module _ (n : Next) (k : Took text at n) (h : at < length text) where
    pub any_stepping : Stepping (tasks_of l) spans s p xs n.line words out
    any_stepping = record {
      ready = walk_ready text l start s₀ p₀ first spans s p xs words out at now h;
      place = walk_place text l start s₀ p₀ first spans s p xs words out at now n k;
      call = λ c is. walk_calling text l start s₀ p₀ first spans s p xs words out at now n k c is (queue_of words p) refl h;
    }

    module _ (s' : Session) (r : Play) (xs' words' out' : List ℕ) where
      abbrev Steps : Type 0
      Steps = StepDid (tasks_of l) s p xs n.line s' r xs' words words' out out'

      pub any_next : Steps → r.over ≡ false → Walking text l start s₀ p₀ first spans s' r xs' words' out' n.at
      any_next (called c is same x) o =
          rw same (walk_next text l start s₀ p₀ first spans s p xs words out at now n k c is (queue_of words p) refl h s' r xs' out' x)
      any_next (aside ne e f x) o = rw (e, f) (walk_aside text l start s₀ p₀ first spans s p xs words out at now n k ne r words' out' x o)

      -- only a line that is no call ends the reading
      pub any_ends : (after : List ℕ) (q : ℕ) → Steps → r.over ≡ true → Wrote 2048 (pendings_text (tasks_of l) s' xs') out' after r.end q
          → Wrote (room_of text - p₀.end) (owed_first text l start s₀ p₀) first after p₀.end q
      any_ends after q (called c is same x) o w = absurd (true≢false (sym o ∙ x.passes.over))
      any_ends after q (aside ne e f x) o w =
          walk_ends text l start s₀ p₀ first spans s p xs words out at now n k ne r words' out' x after q o (rw (e, f) at w)

  -- at the end of the input
  pub end_finishing : Finishing (tasks_of l) spans s p xs out
  end_finishing = record {
    legible = walk_legible text l start s₀ p₀ first spans s p xs words out at now;
    room = omega (arith, walk_room text l start s₀ p₀ first spans s p xs words out at now);
  }

  -- and after a line that ends the reading
  pub any_last : (x : Line) (s' : Session) (r : Play) (xs' words' out' : List ℕ) → StepDid (tasks_of l) s p xs x s' r xs' words words' out out' → r.over ≡ true
      → Finishing (tasks_of l) spans s' r xs' out'
  any_last x s' r xs' words' out' (called c is same d) o = absurd (true≢false (sym o ∙ d.passes.over))
  any_last x s' r xs' words' out' (aside ne e f d) o =
      let room = walk_room text l start s₀ p₀ first spans s p xs words out at now in
      record {
        legible = rw (e, f) (walk_legible text l start s₀ p₀ first spans s p xs words out at now);
        room = omega (arith, d.wrote.place, d.wrote.short, wrote_length 86 _ out out' p.end r.end (omega (arith, d.wrote.short)) d.wrote);
      }

pub ruleset walk_laws = (walk_fit, walk_start, any_stepping, any_next, any_last, any_ends, end_finishing, walk_done, play_less)
