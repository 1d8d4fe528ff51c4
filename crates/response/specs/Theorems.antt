-- No job that is printed is beyond its bound, and no output is empty: `PrintedWithin` and `NeverEmpty` of Statement.antt. Assumes nothing.
use Rattle.std.specs.Prelude.{ℕ, zero, suc, ◌+◌, ◌≤◌, ◌<◌, ◌≡◌, refl, true, cond, List, [], ◌∷◌, ◌++◌, ltb, eqb, length, take}
use Rattle.std.proofs.Common.{sym, ◌∙◌, true≢false, arith, length-append}
use Rattle.std.proofs.Math.Path.{ap, subst}
use Rattle.std.proofs.Math.Logic.{⊎_elim}
use borrow.Author.Tests.{eq-eqb, ne_eqb, le-leb, ltb-true, ltb-false, eqb-true, eqb-false}
use Rattle.bounded.specs.Tests.{both, and-true}
use Rattle.bounded.specs.Fold.{fold_to}
use Rattle.edf.specs.Demand.{TaskSet}
use Rattle.edf.specs.Response.{response_of}
use Rattle.lines.specs.declared.read.Line.{Line}
use Rattle.lines.specs.declared.read.Line.TheVariants.{Row, Word, Call as CallLine, Empty, Unreadable}
use Rattle.lines.specs.Lines.{lines_of}
use Rattle.table.specs.Rows.{tasks_of}
use Rattle.table.specs.Verdict.{opinion_of}
use Rattle.session.specs.declared.Job.{Job}
use Rattle.session.specs.declared.Session.{Session}
use Rattle.session.specs.declared.Outcome.{Outcome}
use Rattle.session.specs.declared.Answer.{Answer}
use Rattle.session.specs.Reading.{idle, job_at}
use Rattle.session.specs.Facts.{Running, Choice}
use Rattle.session.specs.Calls.{Shown, shown, three, over_by, over_after}
use Rattle.session.specs.Start.{no_session}
use Rattle.guarantee.specs.Effects.{Effect, refusal, arrived, chosen, advanced, finished, effect_of}
use Rattle.guarantee.specs.Ledger.{Call, arrive, choose, advance, finish, End, none, at, Entry, Ledger, empty, ran, ended as ended_entry, on_latest, noted, kept}
use Rattle.guarantee.specs.Statement.{outcome_of}
use Rattle.guarantee.specs.History.{unended, counts_after}
use Rattle.guarantee.specs.Late.{Bounded, AllBounded, no_entry, one_more}
use Rattle.guarantee.specs.TiesRow.{over, waiting, Follows, nothing, other, latest}
use Rattle.guarantee.specs.After.{event_of}
use Rattle.guarantee.specs.Responds.{Reached, reached_fresh, reached_bounded, bound_is, tied_follows, not_idle_lem}
use Rattle.guarantee.proofs.RespondsLaws.{reached_call}
use Rattle.transcript.specs.Step.{queue_limit, step_of}
use Rattle.transcript.specs.Kept.{as_call, call_is}
use Rattle.transcript.specs.Transcript.{input_limit, row_limit, rows_in}
use Rattle.transcript.specs.Empty.{first_line}
use Rattle.response.specs.Jobs.{Item, latest_of, ended_by, ended_items, pending_item, pending_items}
use Rattle.response.specs.Plan.{note_of, items_from, items_of, printed_of, planned_of}
use Rattle.response.specs.Statement.{AllIn, PrintedWithin, NeverEmpty}

pub never_empty : NeverEmpty
unfolding planned_of printed_of
never_empty input = simp length-append (omega (arith, first_line (opinion_of (rows_in row_limit (lines_of (take input_limit input))))))

-- ---- the latest entry of a row, by its end

-- its end
unfoldable end_of : ℕ → List Entry → End
end_of i [] = none
end_of i (e ∷ l) = cond (eqb e.row i) e.end (end_of i l)

-- where the row's job runs for all that it has left, it ends at the clock; and so it does by a finish
end_ran : (τ : TaskSet) (k : ℕ) {j : Job} {es : List Entry} (clock n : ℕ) → 1 ≤ j.left → n ≡ j.left → Follows τ k j es
    → end_of k (on_latest k (ran τ clock n) es) ≡ at clock
unfolding end_of on_latest
end_ran τ k clock n some all (nothing z) = absurd (omega arith)
end_ran τ k clock n some all (other {e = e} ne r) = simp (ne_eqb e.row k ne) (end_ran τ k clock n some all r)
end_ran τ k clock n some all (latest q (over x z p h) r) = absurd (omega arith)
end_ran τ k clock n some all (latest {e = e} q (waiting b u p a c) r) =
    let full : τ.C e.row ≤ e.run + n = omega (arith, ap τ.C q) in
    simp (eq-eqb e.row k q) (simp (le-leb (τ.C e.row) (e.run + n) full))

end_finished : (τ : TaskSet) (k : ℕ) {j : Job} {es : List Entry} (clock : ℕ) → 1 ≤ j.left → Follows τ k j es
    → end_of k (on_latest k (ended_entry clock) es) ≡ at clock
unfolding end_of on_latest
end_finished τ k clock some (nothing z) = absurd (omega arith)
end_finished τ k clock some (other {e = e} ne r) = simp (ne_eqb e.row k ne) (end_finished τ k clock some r)
end_finished τ k clock some (latest {e = e} q st r) = simp (eq-eqb e.row k q)

-- ---- its bound, as it is printed

module _ (l : List ℕ) (admitted : (opinion_of l).number ≡ 0) (clock i : ℕ) (known : i < (tasks_of l).rows) where
  abbrev printed : List Entry → List ℕ → ℕ
  printed es cs = (latest_of i es cs).arrival + response_of (tasks_of l) i + (latest_of i es cs).inversions

  one_ended : (e : Entry) (c x : ℕ) → e.row ≡ i → e.end ≡ at x → Bounded l clock e c → x ≤ e.arrival + response_of (tasks_of l) i + c
  one_ended e c x q p b =
      let f = rw p at b in
      omega (arith, ap (response_of (tasks_of l)) q, ltb-false (e.arrival + response_of (tasks_of l) e.row + c) x (rw (bound_is l admitted e c (omega arith)) at f))

  one_waits : (e : Entry) (c : ℕ) → e.row ≡ i → unended e.end ≡ true → Bounded l clock e c → clock < e.arrival + response_of (tasks_of l) i + c
  one_waits e c q p b = by e.end refl
    where
      by : (x : End) → e.end ≡ x → clock < e.arrival + response_of (tasks_of l) i + c
      by none f =
          let g = rw f at b in
          omega (arith, ap (response_of (tasks_of l)) q, ltb-true clock (e.arrival + response_of (tasks_of l) e.row + c) (rw (bound_is l admitted e c (omega arith)) at g))
      by (at x) f = absurd (true≢false (sym p ∙ ap unended f))

  bounded_end : {es : List Entry} {cs : List ℕ} → AllBounded l clock es cs → (x : ℕ) → end_of i es ≡ at x → x ≤ printed es cs
  unfolding end_of latest_of
  bounded_end no_entry x f = absurd (true≢false (ap unended f))
  bounded_end (one_more {e = e} {c = c} b r) x f =
      both (eqb e.row i)
      (λ t. simp t (one_ended e c x (eqb-true e.row i t) (simp t at f) b))
      (λ t. simp t (bounded_end r x (simp t at f)))

  bounded_waits : {es : List Entry} {cs : List ℕ} → AllBounded l clock es cs → (latest_of i es cs).waiting ≡ true → clock < printed es cs
  unfolding latest_of
  bounded_waits no_entry f = absurd (true≢false (sym f))
  bounded_waits (one_more {e = e} {c = c} b r) f =
      both (eqb e.row i)
      (λ t. simp t (one_waits e c (eqb-true e.row i t) (simp t at f) b))
      (λ t. simp t (bounded_waits r (simp t at f)))

-- ---- what an event prints

over_left : (c left n : ℕ) → over_by c left n ≡ 1 → (¬ (c ≡ idle)) × (n ≡ left)
unfolding over_by
over_left c left n e =
    both (eqb c idle) (λ t. let z : 0 ≡ 1 = simp t at e in absurd (omega arith))
    (λ t. both (eqb left n) (λ u. (eqb-false c idle t, sym (eqb-true left n u))) (λ u. let z : 0 ≡ 1 = simp (t, u) at e in absurd (omega arith)))

module _ (l : List ℕ) (g : Ledger) (cs : List ℕ) (s : Session) (r : Reached l g cs s) (ch : Choice s) (x : Running s) where
  same_row : g.chosen ≡ s.chosen
  same_row = r.tied.chosen ch.some

  follows : Follows (tasks_of l) g.chosen (job_at s s.chosen) g.entries
  follows = tied_follows l g s r.good r.tied ch.some x

  advance_end : (n : ℕ) (a : Shown) → n ≡ (job_at s s.chosen).left → end_of s.chosen (noted (tasks_of l) g (advance n) a).entries ≡ at (g.clock + n)
  unfolding noted
  advance_end n a all =
      ap (λ (k : ℕ). end_of k (noted (tasks_of l) g (advance n) a).entries) (sym same_row)
      ∙ simp (ne_eqb g.chosen idle (not_idle_lem l g s r.good r.tied ch.some x))
      (end_ran (tasks_of l) g.chosen (g.clock + n) n (omega (arith, x.within, ch.some)) all follows)

  finish_end : (a : Shown) → end_of s.chosen (noted (tasks_of l) g finish a).entries ≡ at g.clock
  unfolding noted
  finish_end a =
      ap (λ (k : ℕ). end_of k (noted (tasks_of l) g finish a).entries) (sym same_row)
      ∙ end_finished (tasks_of l) g.chosen g.clock (omega (arith, x.within, ch.some)) follows

-- a job that ends does so at the clock
record EndsAt (s : Session) (h : Ledger) : Type 0 where
  known : s.chosen < s.count
  row : h.chosen ≡ s.chosen
  end : end_of s.chosen h.entries ≡ at h.clock

module _ (l : List ℕ) (g : Ledger) (cs : List ℕ) (s : Session) (r : Reached l g cs s) where
  end_by : {c : Call} {s' : Session} {a : Answer} → Effect s c s' a → ended_by c (shown a) ≡ true → EndsAt s (kept (tasks_of l) g (record { call = c; answer = shown a }))
  unfolding kept noted ended_by over_after
  end_by (refusal {c = arrive k} a six) e = absurd (true≢false (sym e))
  end_by (refusal {c = choose w} a six) e = absurd (true≢false (sym e))
  end_by (refusal {c = advance n} a six) e = absurd (omega (arith, eqb-true (shown a).number 0 (and-true (eqb (shown a).number 0) (eqb (shown a).second 1) e).0))
  end_by (refusal {c = finish} a six) e = absurd (omega (arith, eqb-true (shown a).number 0 e))
  end_by (arrived k row ready) e = absurd (true≢false (sym e))
  end_by (chosen w) e = absurd (true≢false (sym e))
  end_by (advanced n ch high end) e =
      let o = over_left s.chosen (job_at s s.chosen).left n (eqb-true (over_by s.chosen (job_at s s.chosen).left n) 1 e) in
      let x : Running s = ⊎_elim (λ z. absurd (o.0 z)) (λ y. y) ch.runs in
      record { known = x.known; row = r.tied.chosen ch.some; end = advance_end l g cs s r ch x n (three 0 0 0) o.1 }
  end_by (finished ch x) e = record { known = x.known; row = r.tied.chosen ch.some; end = finish_end l g cs s r ch x (three 0 0 0) }

  module _ (admitted : (opinion_of l).number ≡ 0) where
    -- the line of the job that a call ends
    ended_within : (c : Call) → AllIn (ended_items (tasks_of l) (kept (tasks_of l) g (event_of s c)) (counts_after (tasks_of l) g cs (event_of s c)) (event_of s c))
    unfolding ended_items
    ended_within c =
        both (ended_by c (event_of s c).answer)
        (λ t.
        let h = kept (tasks_of l) g (event_of s c) in
        let b = reached_bounded l admitted h (counts_after (tasks_of l) g cs (event_of s c)) (outcome_of s c).session (reached_call l g cs s r c) in
        let f = end_by (effect_of s r.good.sound c) t in
        simp t (rw f.row (bounded_end l admitted h.clock s.chosen (omega (arith, f.known, r.good.count)) b h.clock f.end), tt))
        (λ t. simp t tt)

    -- the lines of the jobs that wait
    pending_within : (i : ℕ) → i < (tasks_of l).rows → AllIn (pending_item (tasks_of l) g cs i)
    unfolding pending_item
    pending_within i h =
        both (latest_of i g.entries cs).waiting
        (λ t. simp t (bounded_waits l admitted g.clock i h (reached_bounded l admitted g cs s r) t, tt))
        (λ t. simp t tt)

-- ---- all lines

all_more : (a b : List Item) → AllIn a → AllIn b → AllIn (a ++ b)
all_more [] b x y = y
all_more (i ∷ a) b x y = (x.0, all_more a b x.1 y)

all_fold : (f : ℕ → List Item) (n : ℕ) → ((i : ℕ) → i < n → AllIn (f i)) → AllIn (fold_to (λ l i. l ++ f i) [] n)
unfolding fold_to
all_fold f zero h = tt
all_fold f (suc n) h = all_more (fold_to (λ l i. l ++ f i) [] n) (f n) (all_fold f n (λ i k. h i (omega arith))) (h n (omega arith))

pendings_within : (l : List ℕ) → (opinion_of l).number ≡ 0 → (g : Ledger) (cs : List ℕ) (s : Session) → Reached l g cs s → AllIn (pending_items (tasks_of l) g cs)
unfolding pending_items
pendings_within l e g cs s r = all_fold (pending_item (tasks_of l) g cs) (tasks_of l).rows (pending_within l g cs s r e)

module _ (l : List ℕ) (e : (opinion_of l).number ≡ 0) (q : List ℕ) (n : ℕ) where
  -- what a line prints, and what it leads to
  pub note_within : (g : Ledger) (cs : List ℕ) (s : Session) → Reached l g cs s → (x : Line)
      → AllIn (note_of (tasks_of l) g cs s q n x).items
      × Reached l (note_of (tasks_of l) g cs s q n x).ledger (note_of (tasks_of l) g cs s q n x).counts (step_of s q n x).session
  unfolding note_of step_of
  note_within g cs s r (Row c t d) = ((tt, tt), r)
  note_within g cs s r (Word w) = both (ltb (length q) queue_limit) (λ t. simp t (tt, r)) (λ t. simp t ((tt, tt), r))
  note_within g cs s r (CallLine c) = (
    ended_within l g cs s r e (as_call q c),
    subst (λ (o : Outcome). Reached l (kept (tasks_of l) g (event_of s (as_call q c))) (counts_after (tasks_of l) g cs (event_of s (as_call q c))) o.session)
        (call_is s q c) (reached_call l g cs s r (as_call q c)),
  )
  note_within g cs s r Empty = ((tt, tt), r)
  note_within g cs s r Unreadable = ((tt, tt), r)

from_within : (l : List ℕ) → (opinion_of l).number ≡ 0 → (g : Ledger) (cs : List ℕ) (s : Session) → Reached l g cs s → (q : List ℕ) (n : ℕ) (x : List Line)
    → AllIn (items_from (tasks_of l) g cs s q n x)
unfolding items_from
from_within l e g cs s r q n [] = pendings_within l e g cs s r
from_within l e g cs s r q n (x ∷ m) =
    let w = note_within l e q n g cs s r x in
    let y = note_of (tasks_of l) g cs s q n x in
    all_more y.items _ w.0
    (both (step_of s q n x).ends (λ t. simp t (pendings_within l e _ _ _ w.1))
    (λ t. simp t (from_within l e y.ledger y.counts (step_of s q n x).session w.1 (step_of s q n x).queue (suc n) m)))

pub printed_within : PrintedWithin
unfolding items_of
printed_within l =
    both (eqb (opinion_of (rows_in row_limit l)).number 0)
    (λ t.
    let e = eqb-true (opinion_of (rows_in row_limit l)).number 0 t in
    simp t (from_within (rows_in row_limit l) e empty [] _ (reached_fresh (rows_in row_limit l) e no_session) [] _ _))
    (λ t. simp t tt)
