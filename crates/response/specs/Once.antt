-- Each job has one line: `EachJobOnce` of Statement.antt. As many entries get an end as lines `E` are printed, and those without one are as
-- many as the rows whose job waits. Assumes nothing.
use Rattle.std.specs.Prelude.{ℕ, zero, suc, ◌/◌, ◌+◌, ◌≤◌, ◌<◌, ◌≡◌, refl, Bool, not, cond, List, [], ◌∷◌, ◌++◌, ltb, eqb, length}
use Rattle.std.proofs.Math.Path.{sym}
use Rattle.std.proofs.Common.{ap, ◌∙◌}
use Rattle.std.proofs.Math.Bool.{true, false}
use Rattle.std.proofs.Math.Logic.{⊎_elim, dite}
use Rattle.std.proofs.Math.Decide.{ℕ_discrete, dec_lt}
use native.Mathlib.Omega.{arith}
use borrow.Author.Tests.{eq-eqb, ne_eqb, le-leb, lt-leb, lt-ltb, le-ltb}
use Rattle.bounded.specs.Tests.{both, gate, gate_on, gate_off}
use Rattle.bounded.specs.Sum.{sum_to, sum_eq, sum_eq_at, sum_zero}
use Rattle.bounded.specs.Fold.{fold_to}
use Rattle.edf.specs.Demand.{TaskSet}
use Rattle.lines.specs.declared.read.Line.{Line}
use Rattle.lines.specs.declared.read.Line.TheVariants.{Row, Word, Call as CallLine, Empty, Unreadable}
use Rattle.table.specs.Rows.{tasks_of}
use Rattle.table.specs.Verdict.{opinion_of}
use Rattle.session.specs.declared.Job.{Job}
use Rattle.session.specs.declared.Session.{Session}
use Rattle.session.specs.declared.Answer.{Answer}
use Rattle.session.specs.Reading.{idle, no_job, job_at}
use Rattle.session.specs.Facts.{Running}
use Rattle.session.specs.Calls.{shown, over_by, over_after}
use Rattle.session.specs.Start.{no_session}
use Rattle.guarantee.specs.Effects.{Effect, refusal, arrived, chosen, advanced, finished, effect_of}
use Rattle.guarantee.specs.Ledger.{Call, arrive, choose, advance, finish, Event, End, Entry, Ledger, empty, ran, ended as ended_entry, on_latest, noted, kept}
use Rattle.guarantee.specs.History.{unended, counts_after}
use Rattle.guarantee.specs.TiesRow.{Stands, over, waiting, Follows, nothing, other, latest}
use Rattle.guarantee.specs.After.{event_of}
use Rattle.guarantee.specs.Responds.{Reached, reached_fresh, reached_paired, tied_follows, not_idle_lem, stands_open}
use Rattle.transcript.specs.Step.{queue_limit, step_of}
use Rattle.transcript.specs.Kept.{as_call}
use Rattle.transcript.specs.Transcript.{row_limit, rows_in, after_rows}
use Rattle.response.specs.Jobs.{Item, ended, pending, unread, ended_by, ended_items, pending_item, pending_items}
use Rattle.response.specs.Latest.{latest_waits, latest_none}
use Rattle.response.specs.Plan.{note_of, items_from, items_of}
use Rattle.response.specs.Statement.{jobs_in, ledger_in, EachJobOnce}
use Rattle.response.specs.Theorems.{note_within}

-- how many entries have no end, and how many have one
unfoldable open_in : List Entry → ℕ
open_in [] = 0
open_in (e ∷ l) = gate (unended e.end) 1 + open_in l

unfoldable closed_in : List Entry → ℕ
closed_in [] = 0
closed_in (e ∷ l) = gate (not (unended e.end)) 1 + closed_in l

open_closed : (l : List Entry) → open_in l + closed_in l ≡ length l
unfolding open_in closed_in
open_closed [] = refl
open_closed (e ∷ l) =
    both (unended e.end)
    (λ t. simp t (omega (arith, open_closed l, gate_on true 1 refl, gate_off false 1 refl)))
    (λ t. simp t (omega (arith, open_closed l, gate_on true 1 refl, gate_off false 1 refl)))

-- 1 where a job waits
abbrev waits_one : Job → ℕ
waits_one j = gate (ltb 0 j.left) 1

one_none : (j : Job) → j.left ≡ 0 → waits_one j ≡ 0
one_none j z = gate_off (ltb 0 j.left) 1 (le-ltb 0 j.left (omega arith))

one_some : (j : Job) → 1 ≤ j.left → waits_one j ≡ 1
one_some j z = gate_on (ltb 0 j.left) 1 (lt-ltb 0 j.left z)

-- the entries without an end are as many as the rows whose job waits
open_rows : (τ : TaskSet) (J : ℕ → Job) (es : List Entry) → ((i : ℕ) → Follows τ i (J i) es) → open_in es ≡ sum_to (λ i. waits_one (J i)) τ.rows
unfolding open_in
open_rows τ J [] h = sym (sum_zero (λ i. waits_one (J i)) τ.rows (λ i k. one_none (J i) (free (h i))))
  where
    free : {i : ℕ} {j : Job} → Follows τ i j [] → j.left ≡ 0
    free (nothing z) = z
open_rows τ J (e ∷ es) h = by (λ K k. open_rows τ K es k) (h e.row)
  where
    -- without the entry its row has no job
    J' : ℕ → Job
    J' i = cond (eqb i e.row) no_job (J i)

    off : (i : ℕ) → ¬ (i ≡ e.row) → J' i ≡ J i
    off i ne = simp (ne_eqb i e.row ne)

    on : J' e.row ≡ no_job
    on = simp (eq-eqb e.row e.row refl)

    tail : (i : ℕ) → ¬ (i ≡ e.row) → {j : Job} → Follows τ i j (e ∷ es) → Follows τ i j es
    tail i ne (other q r) = r
    tail i ne (latest q st r) = absurd (ne (sym q))

    rest : Follows τ e.row no_job es → (i : ℕ) → Follows τ i (J' i) es
    rest r i = dite (ℕ_discrete i e.row) (λ q. rw (q, on) r) (λ ne. rw (off i ne) (tail i ne (h i)))

    by : ((K : ℕ → Job) → ((i : ℕ) → Follows τ i (K i) es) → open_in es ≡ sum_to (λ i. waits_one (K i)) τ.rows)
        → Follows τ e.row (J e.row) (e ∷ es) → gate (unended e.end) 1 + open_in es ≡ sum_to (λ i. waits_one (J i)) τ.rows
    by step (other ne r) = absurd (ne refl)
    by step (latest q (over x z p k) r) =
        omega (
          arith,
          gate_off (unended e.end) 1 (ap unended p),
          step J' (rest r),
          sum_eq (λ i. waits_one (J i)) (λ i. waits_one (J' i)) τ.rows
              (λ i l. dite (ℕ_discrete i e.row) (λ f. rw (f, on) (one_none (J e.row) z ∙ sym (one_none no_job refl))) (λ ne. ap waits_one (sym (off i ne)))),
        )
    by step (latest q (waiting b some p a c) r) =
        omega (
          arith,
          gate_on (unended e.end) 1 (ap unended p),
          step J' (rest r),
          sum_eq_at (λ i. waits_one (J i)) (λ i. waits_one (J' i)) τ.rows e.row b (λ i l ne. ap waits_one (sym (off i ne))),
          one_some (J e.row) some,
          ap waits_one on ∙ one_none no_job refl,
        )

jobs_more : (a b : List Item) → jobs_in (a ++ b) ≡ jobs_in a + jobs_in b
jobs_more [] b = omega arith
jobs_more (ended j ∷ a) b = omega (arith, jobs_more a b)
jobs_more (pending j ∷ a) b = omega (arith, jobs_more a b)
jobs_more (unread c n ∷ a) b = jobs_more a b

jobs_fold : (f : ℕ → List Item) (g : ℕ → ℕ) (n : ℕ) → ((i : ℕ) → i < n → jobs_in (f i) ≡ g i) → jobs_in (fold_to (λ l i. l ++ f i) [] n) ≡ sum_to g n
unfolding fold_to sum_to
jobs_fold f g zero h = refl
jobs_fold f g (suc n) h =
    omega (arith, jobs_more (fold_to (λ l i. l ++ f i) [] n) (f n), jobs_fold f g n (λ i k. h i (omega arith)), h n (omega arith))

module _ (l : List ℕ) (g : Ledger) (cs : List ℕ) (s : Session) (r : Reached l g cs s) where
  -- the lines of the jobs that wait
  pending_one : (i : ℕ) → jobs_in (pending_item (tasks_of l) g cs i) ≡ waits_one (job_at s i)
  unfolding pending_item
  pending_one i =
      dite (dec_lt 0 (job_at s i).left)
      (λ some. simp (latest_waits (tasks_of l) i cs (reached_paired r) some (r.tied.rows i)).0 (sym (one_some (job_at s i) some)))
      (λ none.
      let z : (job_at s i).left ≡ 0 = omega arith in
      simp (latest_none (tasks_of l) i cs z (r.tied.rows i)) (sym (one_none (job_at s i) z)))

  pending_all : jobs_in (pending_items (tasks_of l) g cs) ≡ open_in g.entries
  unfolding pending_items
  pending_all =
      jobs_fold (pending_item (tasks_of l) g cs) (λ i. waits_one (job_at s i)) (tasks_of l).rows (λ i k. pending_one i)
      ∙ sym (open_rows (tasks_of l) (job_at s) g.entries r.tied.rows)

-- the entry of a waiting job changes: it has an end afterwards, or not
closed_changed : (τ : TaskSet) (k : ℕ) (f : Entry → Entry) (b : Bool) {j : Job} (es : List Entry) → 1 ≤ j.left
    → ((e : Entry) → e.row ≡ k → Stands τ k j e → not (unended (f e).end) ≡ b) → Follows τ k j es
    → closed_in (on_latest k f es) ≡ closed_in es + gate b 1
unfolding closed_in on_latest
closed_changed τ k f b es some step (nothing z) = absurd (omega arith)
closed_changed τ k f b (e ∷ es) some step (other ne r) =
    simp (ne_eqb e.row k ne) (omega (arith, closed_changed τ k f b es some step r))
closed_changed τ k f b {j} (e ∷ es) some step (latest q st r) =
    let o = stands_open τ k j e q some st in
    simp (eq-eqb e.row k q)
    (omega (arith, ap (λ (z : Bool). gate z 1) (step e q st), gate_off (not (unended e.end)) 1 (ap (λ (z : End). not (unended z)) o.0)))

module _ (l : List ℕ) (g : Ledger) (cs : List ℕ) (s : Session) (r : Reached l g cs s) where
  abbrev after : Call → Answer → Ledger
  after c a = kept (tasks_of l) g (record { call = c; answer = shown a })

  -- n ticks of a row's job: its entry has an end afterwards exactly if that was all that it had left
  ran_ends : (n : ℕ) (j : Job) → n ≤ j.left → (e : Entry) → e.row ≡ g.chosen → Stands (tasks_of l) g.chosen j e → 1 ≤ j.left
      → not (unended (ran (tasks_of l) (g.clock + n) n e).end) ≡ eqb j.left n
  ran_ends n j most e q (over x z p h) some = absurd (omega arith)
  ran_ends n j most e q (waiting b u p a c) some =
      dite (ℕ_discrete j.left n)
      (λ all.
      let full : (tasks_of l).C e.row ≤ e.run + n = omega (arith, ap (tasks_of l).C q) in
      rw (eq-eqb j.left n all) (simp (le-leb ((tasks_of l).C e.row) (e.run + n) full)))
      (λ ne.
      let less : e.run + n < (tasks_of l).C e.row = omega (arith, ap (tasks_of l).C q) in
      rw (ne_eqb j.left n ne) (simp (lt-leb ((tasks_of l).C e.row) (e.run + n) less, p)))

  -- as many entries get an end as lines are printed
  closed_by : {c : Call} {s' : Session} {a : Answer} → Effect s c s' a
      → closed_in (after c a).entries ≡ closed_in g.entries + gate (ended_by c (shown a)) 1
  unfolding kept noted ended_by closed_in over_after over_by
  closed_by (refusal {c = arrive k} a six) = simp (ne_eqb (shown a).number 0 (λ q. omega arith)) (omega (arith, gate_off false 1 refl))
  closed_by (refusal {c = choose w} a six) = simp (ne_eqb (shown a).number 0 (λ q. omega arith)) (omega (arith, gate_off false 1 refl))
  closed_by (refusal {c = advance n} a six) = simp (ne_eqb (shown a).number 0 (λ q. omega arith)) (omega (arith, gate_off false 1 refl))
  closed_by (refusal {c = finish} a six) = simp (ne_eqb (shown a).number 0 (λ q. omega arith)) (omega (arith, gate_off false 1 refl))
  closed_by (arrived k row ready) = omega (arith, gate_off false 1 refl)
  closed_by (chosen w) = omega (arith, gate_off false 1 refl)
  closed_by (advanced n ch high end) =
      ⊎_elim
      (λ z. simp (eq-eqb g.chosen idle (r.tied.chosen ch.some ∙ z), eq-eqb s.chosen idle z) (omega (arith, gate_off false 1 refl)))
      (λ (x : Running s).
      let j = job_at s s.chosen in
      let ne = not_idle_lem l g s r.good r.tied ch.some x in
      let nes : ¬ (s.chosen ≡ idle) = λ z. ne (r.tied.chosen ch.some ∙ z) in
      let some : 1 ≤ j.left = omega (arith, x.within, ch.some) in
      simp (ne_eqb g.chosen idle ne, ne_eqb s.chosen idle nes)
      (closed_changed (tasks_of l) g.chosen (ran (tasks_of l) (g.clock + n) n) (eqb j.left n) g.entries some
      (λ e q st. ran_ends n j (omega (arith, x.within)) e q st some) (tied_follows l g s r.good r.tied ch.some x)
      ∙ both (eqb j.left n) (λ t. simp t) (λ t. simp t)))
      ch.runs
  closed_by (finished ch x) =
      closed_changed (tasks_of l) g.chosen (ended_entry g.clock) true g.entries (omega (arith, x.within, ch.some)) (λ e q st. refl)
      (tied_follows l g s r.good r.tied ch.some x)

  ended_one : (e : Event) (h : Ledger) (bs : List ℕ) → jobs_in (ended_items (tasks_of l) h bs e) ≡ gate (ended_by e.call e.answer) 1
  unfolding ended_items
  ended_one e h bs = both (ended_by e.call e.answer) (λ t. simp t (sym (gate_on true 1 refl))) (λ t. simp t (sym (gate_off false 1 refl)))

  -- what a line prints of jobs, and what it leads to
  note_once : (q : List ℕ) (n : ℕ) (x : Line)
      → closed_in (note_of (tasks_of l) g cs s q n x).ledger.entries ≡ closed_in g.entries + jobs_in (note_of (tasks_of l) g cs s q n x).items
  unfolding note_of step_of
  note_once q n (Row c t d) = omega arith
  note_once q n (Word w) = both (ltb (length q) queue_limit) (λ t. simp t (omega arith)) (λ t. simp t (omega arith))
  note_once q n (CallLine c) =
      let e = event_of s (as_call q c) in
      omega (arith, closed_by (effect_of s r.good.sound (as_call q c)), ended_one e (kept (tasks_of l) g e) (counts_after (tasks_of l) g cs e))
  note_once q n Empty = omega arith
  note_once q n Unreadable = omega arith

-- the lines from here on, and the jobs that are over already
from_once : (l : List ℕ) → (opinion_of l).number ≡ 0 → (g : Ledger) (cs : List ℕ) (s : Session) → Reached l g cs s → (q : List ℕ) (n : ℕ) (x : List Line)
    → jobs_in (items_from (tasks_of l) g cs s q n x) + closed_in g.entries ≡ length (ledger_in (tasks_of l) g cs s q n x).entries
unfolding items_from ledger_in
from_once l e g cs s r q n [] = omega (arith, pending_all l g cs s r, open_closed g.entries)
from_once l e g cs s r q n (x ∷ m) =
    let w = (note_within l e q n g cs s r x).1 in
    let o = note_once l g cs s r q n x in
    let y = note_of (tasks_of l) g cs s q n x in
    both (step_of s q n x).ends
    (λ t. simp t (omega (arith, o, jobs_more y.items (pending_items (tasks_of l) y.ledger y.counts), pending_all l _ _ _ w, open_closed y.ledger.entries)))
    (λ t. simp t (omega (arith, o, jobs_more y.items (items_from (tasks_of l) y.ledger y.counts (step_of s q n x).session (step_of s q n x).queue (suc n) m), from_once l e y.ledger y.counts (step_of s q n x).session w (step_of s q n x).queue (suc n) m)))

pub each_job_once : EachJobOnce
unfolding items_of closed_in
each_job_once l e =
    simp (eq-eqb (opinion_of (rows_in row_limit l)).number 0 e)
    (omega (
      arith,
      from_once (rows_in row_limit l) e empty [] _ (reached_fresh (rows_in row_limit l) e no_session) []
          (suc (length (rows_in row_limit l) / 3)) (after_rows row_limit l),
    ))
