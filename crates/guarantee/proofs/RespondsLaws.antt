-- More laws of specs/Responds.antt: they rest on what a must-fail edit makes false. Assumes nothing.
use Rattle.std.specs.Prelude.{ℕ, ◌+◌, ◌-◌, ◌≤◌, ◌<◌, ◌≡◌, Bool, ◌||◌, leb, ltb}
use Rattle.std.proofs.Math.Path.{refl, ap, subst}
use Rattle.std.proofs.Common.{sym, ◌∙◌, true≢false}
use Rattle.std.proofs.Math.Bool.{true, false}
use mathlib.Core.List.{List, [], ◌∷◌}
use Rattle.std.proofs.Math.Logic.{⊎_elim}
use native.Mathlib.Omega.{arith}
use borrow.Author.Tests.{eq-eqb, ne_eqb, le-ltb, ltb-false}
use Rattle.bounded.specs.Tests.{both, gate, gate_on, gate_off}
use Rattle.edf.specs.Demand.{TaskSet, Lawful}
use Rattle.edf.specs.State.{State}
use Rattle.edf.specs.Response.{reach, reach_left}
use Rattle.edf.proofs.ResponseLaws.{reach_arrive, reach_new, reach_run, reach_past, reach_idle, reach_over}
use Rattle.table.specs.Rows.{tasks_of, fit_lawful}
use Rattle.session.specs.declared.Job.{Job}
use Rattle.session.specs.declared.Session.{Session}
use Rattle.session.specs.declared.Answer.{Answer}
use Rattle.session.specs.Reading.{idle, job_at, rows_of, tasks, waits, state_of}
use Rattle.session.specs.Facts.{Running, Choice}
use Rattle.session.specs.Calls.{Shown, shown, changed, jobs_with, aged_job, given_job}
use Rattle.session.specs.Arrive.{with_arrived}
use Rattle.session.specs.Start.{start_of}
use Rattle.guarantee.specs.Ledger.{Call, arrive, choose, advance, finish, none, Entry, Ledger, empty, ran, ended, on_latest, noted, kept}
use Rattle.guarantee.specs.Statement.{outcome_of}
use Rattle.guarantee.specs.History.{due_of, unended, later_than, overtakes, passed_over, counted, recounted, counts_after}
use Rattle.guarantee.specs.Late.{HowLate}
use Rattle.guarantee.specs.Good.{Good, in_table}
use Rattle.guarantee.specs.Effects.{Effect, refusal, arrived, chosen, advanced, finished, effect_of}
use Rattle.guarantee.specs.KeepsArrive.{arrive_step}
use Rattle.guarantee.specs.KeepsAdvance.{run_step, idle_step}
use Rattle.guarantee.specs.KeepsFinish.{over_step}
use Rattle.guarantee.specs.Keeps.{good_call}
use Rattle.guarantee.specs.TiesRow.{Stands, Follows, nothing, other, latest}
use Rattle.guarantee.specs.Ties.{Tied}
use Rattle.guarantee.proofs.TiesLaws.{tied_call}
use Rattle.guarantee.specs.After.{event_of}
use Rattle.guarantee.proofs.AfterLaws.{after_calls}
use Rattle.guarantee.specs.Responds.{Held, AllHeld, no_end, stands_open, tied_idle, not_idle_lem, tied_follows, τ, some, Reached, reached_fresh, reached_bounded, is_open, is_over, none_held, more}

-- n ticks of the chosen one, after which no reach is greater by more than n, and none is greater that is not overtaken
module _ (τ : TaskSet) (s s' : State) (g : Ledger) (n : ℕ) (past : (d : ℕ) → reach τ s' d ≤ reach τ s d + n)
    (by : (d : ℕ) → overtakes τ g d ≡ false → reach τ s' d ≤ reach τ s d) where
  -- an entry that does not change
  held_same : {e : Entry} {c : ℕ} → Held τ s e c → Held τ s' e (c + gate (passed_over τ g e) n)
  unfolding passed_over
  held_same {e} {c} (is_open k p b) =
      let d = due_of τ e in
      both (overtakes τ g d)
      (λ t. is_open k p (rw p (simp t (omega (arith, past d, gate_on true n refl)))))
      (λ t. is_open k p (rw p (simp t (omega (arith, by d t, gate_off false n refl)))))
  held_same {e} {c} (is_over k x p b) = is_over k x p (rw p (omega arith))

  all_same : {es : List Entry} {l : List ℕ} → AllHeld τ s es l → AllHeld τ s' es (counted τ g n es l)
  unfolding counted
  all_same none_held = none_held
  all_same (more a r) = more (held_same a) (all_same r)

  -- the latest entry of row k, the one whose job waits, changes by f
  all_changed : (k : ℕ) (f : Entry → Entry) {j : Job} {es : List Entry} {l : List ℕ} → 1 ≤ j.left
      → ((e : Entry) (c : ℕ) → e.row ≡ k → Stands τ k j e → Held τ s e c → Held τ s' (f e) (c + gate (passed_over τ g e) n))
      → Follows τ k j es → AllHeld τ s es l → AllHeld τ s' (on_latest k f es) (counted τ g n es l)
  unfolding counted on_latest
  all_changed k f some step (nothing z) r = absurd (omega arith)
  all_changed k f some step (other {e = e} ne w) (more a r) =
      simp (ne_eqb e.row k ne) (more (held_same a) (all_changed k f some step w r))
  all_changed k f some step (latest {e = e} q st w) (more {c = c} a r) =
      simp (eq-eqb e.row k q) (more (step e c q st a) (all_same r))

-- no tick counts nothing
gate_zero : (b : Bool) (c : ℕ) → c + gate b 0 ≡ c
gate_zero b c = both b (λ t. omega (arith, gate_on b 0 t)) (λ t. omega (arith, gate_off b 0 t))

counted_none : (τ : TaskSet) (s : State) (g : Ledger) {es : List Entry} {l : List ℕ} → AllHeld τ s es l → counted τ g 0 es l ≡ l
unfolding counted
counted_none τ s g none_held = refl
counted_none τ s g (more {e = e} {c = c} {l = l} a r) = rw (gate_zero (passed_over τ g e) c, counted_none τ s g r)

-- it ends at a clock that is within reach
held_ended : (τ : TaskSet) (s s' : State) (clock : ℕ) (e : Entry) (c : ℕ) → e.end ≡ none → clock ≤ reach τ s (due_of τ e)
    → Held τ s e c → Held τ s' (ended clock e) c
held_ended τ s s' clock e c p h (is_open k q b) = is_over k clock refl (omega arith)
held_ended τ s s' clock e c p h (is_over k x q b) = no_end e x p q

-- it runs for m ticks, up to the clock
held_ran : (τ : TaskSet) (s s' : State) (clock m : ℕ) (e : Entry) (c : ℕ) → e.end ≡ none → clock ≤ reach τ s (due_of τ e)
    → reach τ s' (due_of τ e) ≤ reach τ s (due_of τ e) → Held τ s e c → Held τ s' (ran τ clock m e) c
held_ran τ s s' clock m e c p h k (is_open w q b) =
    both (leb (τ.C e.row) (e.run + m)) (λ t. is_over w clock (simp t) (omega arith)) (λ t. is_open w (simp t p) (omega arith))
held_ran τ s s' clock m e c p h k (is_over w x q b) = no_end e x p q

-- so whether it is later is told by the job's deadline
later_is : (τ : TaskSet) (k d : ℕ) {j : Job} {es : List Entry} → 1 ≤ j.left → Follows τ k j es → later_than τ k d es ≡ ltb d j.due
unfolding later_than
later_is τ k d some (nothing z) = absurd (omega arith)
later_is τ k d some (other {e = e} ne w) = simp (ne_eqb e.row k ne) (later_is τ k d some w)
later_is τ k d {j = j} some (latest {e = e} q st w) =
    simp (eq-eqb e.row k q) (ap (ltb d) (stands_open τ k j e q some st).1)

-- ---- whose deadline is overtaken

overtakes_row : (τ : TaskSet) (g : Ledger) (d : ℕ) → ¬ (g.chosen ≡ idle) → overtakes τ g d ≡ later_than τ g.chosen d g.entries
unfolding overtakes
overtakes_row τ g d ne = ap (λ (b : Bool). b || later_than τ g.chosen d g.entries) (ne_eqb g.chosen idle ne)

-- by the session: idle is chosen, or the chosen row's job is due strictly later
module _ (l : List ℕ) (g : Ledger) (s : Session) (good : Good l s) (tied : Tied l g s) (force : 1 ≤ s.span) where
  module _ (r : Running s) where
    pub tied_later : (d : ℕ) → overtakes (tasks_of l) g d ≡ ltb d (job_at s s.chosen).due
    tied_later d =
        overtakes_row (tasks_of l) g d (not_idle_lem l g s good tied force r) ∙ later_is (tasks_of l) g.chosen d (omega (arith, r.within)) (tied_follows l g s good tied force r)

-- ---- each call

module _ (s : Session) (good : Good (rows_of s) s) (g : Ledger) (tied : Tied (rows_of s) g s) where
  ok : Lawful (tasks s)
  ok = fit_lawful (tasks s) good.fit

  -- where no tick passes and no reach rises, nothing is counted
  still : (s' : State) → ((d : ℕ) → reach (τ s good g tied) s' d ≤ reach (τ s good g tied) (state_of s) d) → {es : List Entry} {l : List ℕ} → AllHeld (τ s good g tied) (state_of s) es l → AllHeld (τ s good g tied) s' es l
  still s' h {es} {l} r =
      subst (λ (z : List ℕ). AllHeld (τ s good g tied) s' es z) (counted_none (τ s good g tied) (state_of s) g r)
      (all_same (τ s good g tied) (state_of s) s' g 0 (λ d. omega (arith, h d)) (λ d t. h d) r)

  held_arrive : (k : ℕ) (a : Shown) (row : k < s.count) (ready : (job_at s k).next ≤ s.clock) {l : List ℕ} → AllHeld (τ s good g tied) (state_of s) g.entries l
      → AllHeld (τ s good g tied) (state_of (with_arrived s k)) (noted (τ s good g tied) g (arrive k) a).entries (0 ∷ l)
  unfolding noted
  held_arrive k a row ready r =
      let st = arrive_step s good k row ready in
      let formed = good.safe.formed in
      more {e = record { row = k; arrival = g.clock; run = 0; end = none }} {c = 0}
      (is_open (in_table good k row) refl (rw tied.clock (omega (arith, reach_new (τ s good g tied) ok (state_of s) _ formed k _ st))))
      (still _ (reach_arrive (τ s good g tied) ok (state_of s) _ formed k _ st) r)

  held_choose : (w : List ℕ) (a : Shown) (c n : ℕ) {l : List ℕ} → AllHeld (τ s good g tied) (state_of s) g.entries l
      → AllHeld (τ s good g tied) (state_of (changed s s.clock s.jobs c n)) (noted (τ s good g tied) g (choose w) a).entries l
  unfolding waits noted
  held_choose w a c n h = h

  -- the job of the chosen row
  module _ (force : 1 ≤ s.span) (r : Running s) where
    time_ahead : s.clock + (job_at s s.chosen).left ≤ reach (τ s good g tied) (state_of s) (job_at s s.chosen).due
    time_ahead = reach_left (τ s good g tied) ok (state_of s) s.chosen (in_table good s.chosen r.known) r.waiting

    follows : Follows (τ s good g tied) g.chosen (job_at s s.chosen) g.entries
    follows = tied_follows (rows_of s) g s good tied force r

    -- its own entry is not passed over
    own_runs : (e : Entry) (c n : ℕ) → due_of (τ s good g tied) e ≡ (job_at s s.chosen).due → c + gate (passed_over (τ s good g tied) g e) n ≡ c
    unfolding passed_over
    own_runs e c n q =
        let off = tied_later (rows_of s) g s good tied force r (due_of (τ s good g tied) e) ∙ le-ltb (due_of (τ s good g tied) e) (job_at s s.chosen).due (omega (arith, q)) in
        both (unended e.end) (λ t. simp (t, off) (omega (arith, gate_off false n refl))) (λ t. simp t (omega (arith, gate_off false n refl)))

    held_finish : (a : Shown) {l : List ℕ} → AllHeld (τ s good g tied) (state_of s) g.entries l
        → AllHeld (τ s good g tied) (state_of (changed s s.clock (jobs_with s (given_job s) s.count) 0 0)) (noted (τ s good g tied) g finish a).entries l
    unfolding noted
    held_finish a {l} h =
        let st = over_step s good r.known r.waiting in
        let fall = reach_over (τ s good g tied) ok (state_of s) _ s.chosen st in
        subst (λ (z : List ℕ). AllHeld (τ s good g tied) (state_of (changed s s.clock (jobs_with s (given_job s) s.count) 0 0)) (on_latest g.chosen (ended g.clock) g.entries) z)
        (counted_none (τ s good g tied) (state_of s) g h)
        (all_changed (τ s good g tied) (state_of s) _ g 0 (λ d. omega (arith, fall d)) (λ d t. fall d) g.chosen (ended g.clock) (some s good g tied force r)
        (λ e c q w b.
        let o = stands_open (τ s good g tied) g.chosen (job_at s s.chosen) e q (some s good g tied force r) w in
        rw (own_runs e c 0 o.1)
        (held_ended (τ s good g tied) (state_of s) _ g.clock e c o.0 (rw o.1 (omega (arith, tied.clock, time_ahead))) b))
        follows h)

    -- n ticks of it
    held_run : (ch : Choice s) (n : ℕ) (within : n ≤ s.span) (c : ℕ) (a : Shown) {l : List ℕ} → AllHeld (τ s good g tied) (state_of s) g.entries l
        → AllHeld (τ s good g tied) (state_of (changed s (s.clock + n) (jobs_with s (aged_job s n) s.count) c (s.span - n))) (noted (τ s good g tied) g (advance n) a).entries
        (counted (τ s good g tied) g n g.entries l)
    unfolding noted
    held_run ch n within c a h =
        let st = run_step s good ch n within c r in
        simp (ne_eqb g.chosen idle (not_idle_lem (rows_of s) g s good tied force r))
        (all_changed (τ s good g tied) (state_of s) _ g n (reach_past (τ s good g tied) ok (state_of s) _ s.chosen n st)
        (λ d t. reach_run (τ s good g tied) ok (state_of s) _ s.chosen n st d
        (ltb-false d (job_at s s.chosen).due (sym (tied_later (rows_of s) g s good tied force r d) ∙ t)))
        g.chosen (ran (τ s good g tied) (g.clock + n) n) (some s good g tied force r)
        (λ e k q w b.
        let o = stands_open (τ s good g tied) g.chosen (job_at s s.chosen) e q (some s good g tied force r) w in
        rw (own_runs e k n o.1)
        (held_ran (τ s good g tied) (state_of s) _ (g.clock + n) n e k o.0 (rw o.1 (omega (arith, tied.clock, time_ahead, r.within)))
        (reach_run (τ s good g tied) ok (state_of s) _ s.chosen n st (due_of (τ s good g tied) e) (omega (arith, o.1))) b))
        follows h)

  -- n ticks of idle
  held_idle : (force : 1 ≤ s.span) (e : s.chosen ≡ idle) (ch : Choice s) (n : ℕ) (within : n ≤ s.span) (c : ℕ) (a : Shown) {l : List ℕ}
      → AllHeld (τ s good g tied) (state_of s) g.entries l
      → AllHeld (τ s good g tied) (state_of (changed s (s.clock + n) (jobs_with s (aged_job s n) s.count) c (s.span - n))) (noted (τ s good g tied) g (advance n) a).entries
      (counted (τ s good g tied) g n g.entries l)
  unfolding noted
  held_idle force e ch n within c a h =
      let st = idle_step s good ch n within c e in
      simp (eq-eqb g.chosen idle (tied.chosen force ∙ e))
      (all_same (τ s good g tied) (state_of s) _ g n (reach_idle (τ s good g tied) ok (state_of s) _ n st)
      (λ d t. absurd (true≢false (sym (tied_idle (rows_of s) g s good tied force e d) ∙ t)))
      h)

  held_effect : {c : Call} {s' : Session} {a : Answer} {l : List ℕ} → Effect s c s' a → AllHeld (τ s good g tied) (state_of s) g.entries l
      → AllHeld (τ s good g tied) (state_of s') (kept (τ s good g tied) g (record { call = c; answer = shown a })).entries (counts_after (τ s good g tied) g l (record { call = c; answer = shown a }))
  unfolding kept counts_after recounted
  held_effect (refusal a z) h = simp (ne_eqb (shown a).number 0 (λ q. omega arith)) h
  held_effect (arrived k row ready) h = held_arrive k _ row ready h
  held_effect (chosen w) h = held_choose w _ _ _ h
  held_effect (advanced n ch high end) h =
      ⊎_elim (λ e. held_idle ch.some e ch n high _ _ h) (λ r. held_run ch.some r ch n high _ _ h) ch.runs
  held_effect (finished ch r) h = held_finish ch.some r _ h

pub reached_call : (l : List ℕ) (g : Ledger) (cs : List ℕ) (s : Session) → Reached l g cs s → (c : Call)
    → Reached l (kept (tasks_of l) g (event_of s c)) (counts_after (tasks_of l) g cs (event_of s c)) (outcome_of s c).session
reached_call l g cs s r c = record {
  good = good_call l s r.good c;
  tied = tied_call l g s r.good r.tied c;
  held =
      subst
      (λ (z : List ℕ). Good z s → Tied z g s → AllHeld (tasks_of z) (state_of s) g.entries cs
      → AllHeld (tasks_of z) (state_of (outcome_of s c).session) (kept (tasks_of z) g (event_of s c)).entries (counts_after (tasks_of z) g cs (event_of s c)))
      r.good.rows (λ h t. held_effect s h g t (effect_of s h.sound c)) r.good r.tied r.held;
}

-- HOW LATE
pub how_late : HowLate
how_late l e s₀ calls =
    reached_bounded l e _ _ _ (after_calls (tasks_of l) (Reached l) (reached_call l) empty [] (start_of s₀ l) (reached_fresh l e s₀) calls)
