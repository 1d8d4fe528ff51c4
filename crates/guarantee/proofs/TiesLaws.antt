-- More laws of specs/Ties.antt: they rest on what a must-fail edit makes false. Assumes nothing.
use Rattle.std.specs.Prelude.{ℕ, ◌+◌, ◌-◌, ◌≤◌, ◌<◌, ◌≡◌, cond, List, ◌⊎◌, eqb, get_or, set}
use Rattle.std.proofs.Math.Path.{refl}
use Rattle.std.proofs.Common.{sym, ◌∙◌, inl, inr, arith, get_or-set_same, get_or-set_other, eq-eqb, ne_eqb}
use Rattle.std.proofs.Math.Logic.{dite}
use Rattle.std.proofs.Math.Decide.{ℕ_discrete}
use Rattle.table.specs.Rows.{tasks_of}
use Rattle.session.specs.declared.Job.{Job}
use Rattle.session.specs.declared.Session.{Session}
use Rattle.session.specs.declared.Answer.{Answer}
use Rattle.session.specs.Reading.{idle, no_job, job_at}
use Rattle.session.specs.Facts.{Running}
use Rattle.session.specs.Calls.{Shown, shown, changed, jobs_with, arrived_job, over_job_lem, aged_job, given_job}
use Rattle.guarantee.specs.Ledger.{Call, arrive, choose, advance, finish, Entry, Ledger, ran, ended, on_latest, noted, kept}
use Rattle.guarantee.specs.Statement.{outcome_of, InTime}
use Rattle.guarantee.specs.Good.{Good, good_places, in_table}
use Rattle.guarantee.specs.Effects.{Effect, refusal, arrived, chosen, advanced, finished, effect_of}
use Rattle.guarantee.specs.KeepsJobs.{Rebudgeted, job_after, aged_passed, given_other, given_over}
use Rattle.guarantee.specs.TiesRow.{Stands, waiting, Follows, other, InRow, stands_ended, stands_ran, follows_kept, follows_new, follows_changed, follows_other, follows_timely, each_timely}
use Rattle.guarantee.specs.TiesJobs.{ran_chosen, ran_none, time_left, row_free, running_time}
use Rattle.guarantee.specs.Ties.{Tied}

-- ---- an accepted call

module _ (l : List ℕ) (g : Ledger) (s : Session) (good : Good l s) (tied : Tied l g s) where
  -- the job of row k becomes j, and no entry of another row changes
  set_rows : (k : ℕ) (j : Job) (es : List Entry) → k < s.count → Follows (tasks_of l) k j es
      → ((i : ℕ) → ¬ (i ≡ k) → Follows (tasks_of l) i (job_at s i) es)
      → (i : ℕ) → Follows (tasks_of l) i (get_or (set s.jobs k j) i no_job) es
  set_rows k j es h same others i =
      dite (ℕ_discrete i k) (λ e. rw (e, get_or-set_same s.jobs k j no_job (omega (arith, good_places good))) same)
      (λ ne. rw (get_or-set_other s.jobs k i j no_job ne) (others i ne))

  tied_arrive : (k : ℕ) (a : Shown) → k < s.count → (job_at s k).next ≤ s.clock
      → Tied l (noted (tasks_of l) g (arrive k) a) (changed s s.clock (set s.jobs k (arrived_job s k)) 0 0)
  unfolding noted
  tied_arrive k a h e = record {
    clock = tied.clock;
    chosen = λ force. absurd (omega arith);
    rows = set_rows k (arrived_job s k) (noted (tasks_of l) g (arrive k) a).entries h
        (rw good.rows
        (follows_new (tasks_of l) k _ refl (row_free good k h e)
        (waiting (in_table good k h) (good.fit.row k (in_table good k h)).cost refl (omega (arith, tied.clock)) (omega arith))
        (tied.rows k)))
        (λ i ne. other (λ q. ne (sym q)) (tied.rows i));
  }

  tied_choose : (w : List ℕ) (a : Shown) (c n : ℕ) → a.first ≡ c
      → Tied l (noted (tasks_of l) g (choose w) a) (changed s s.clock s.jobs c n)
  unfolding noted
  tied_choose w a c n e = record { clock = tied.clock; chosen = λ force. e; rows = tied.rows }

  -- a row whose job at most has another budget
  rest_row : (f : ℕ → Job) (i : ℕ) (es : List Entry) → (i < s.count → Rebudgeted (job_at s i) (job_after s f i))
      → Follows (tasks_of l) i (job_at s i) es → Follows (tasks_of l) i (job_after s f i) es
  rest_row f i es rest h = follows_kept (tasks_of l) i (ran_none good f i rest) h

  -- a row runs: the latest entry of that row changes by f, and no other entry
  module _ (force : 1 ≤ s.span) (r : Running s) (f : Entry → Entry) (keeps : InRow f) where
    chosen_row_lem : (j : Job)
        → ((e : Entry) → e.row ≡ s.chosen → Stands (tasks_of l) s.chosen (job_at s s.chosen) e → Stands (tasks_of l) s.chosen j (f e))
        → Follows (tasks_of l) s.chosen j (on_latest g.chosen f g.entries)
    chosen_row_lem j step =
        rw (tied.chosen force)
        (follows_changed (tasks_of l) s.chosen f keeps (omega (arith, r.within)) step (tied.rows s.chosen))

    other_row : (i : ℕ) → ¬ (i ≡ s.chosen) → Follows (tasks_of l) i (job_at s i) (on_latest g.chosen f g.entries)
    other_row i ne = rw (tied.chosen force) (follows_other (tasks_of l) i s.chosen f keeps ne (tied.rows i))

  tied_finish : (a : Shown) → 1 ≤ s.span → Running s
      → Tied l (noted (tasks_of l) g finish a) (changed s s.clock (jobs_with s (given_job s) s.count) 0 0)
  unfolding noted
  tied_finish a force r =
      let t = running_time good force r in
      record {
        clock = tied.clock;
        chosen = λ force. absurd (omega arith);
        rows = λ i. dite (ℕ_discrete i s.chosen)
            (λ e. rw (e, given_over s (good_places good) r.known)
            (chosen_row_lem force r (ended g.clock) (λ e. refl) (over_job_lem (job_at s s.chosen))
            (λ e q. stands_ended (tasks_of l) s.chosen g.clock e t.0 (omega (arith, tied.clock, t.1)) refl)))
            (λ ne. rest_row (given_job s) i _ (λ h. (given_other s (good_places good) i h ne).rest)
            (other_row force r (ended g.clock) (λ e. refl) i ne));
      }

  -- n ticks, not more than the span
  module _ (n : ℕ) (a : Shown) (force : 1 ≤ s.span) (most : n ≤ s.span) where
    -- a row that does not run
    idle_row : (i : ℕ) (es : List Entry) → (i < s.count → ¬ (i ≡ s.chosen))
        → Follows (tasks_of l) i (job_at s i) es → Follows (tasks_of l) i (job_after s (aged_job s n) i) es
    idle_row i es ne h = rest_row (aged_job s n) i es (λ k. (aged_passed s (good_places good) n i k (ne k)).rest) h

    -- the row that runs
    run_row : Running s
        → Follows (tasks_of l) s.chosen (job_after s (aged_job s n) s.chosen) (on_latest g.chosen (ran (tasks_of l) (g.clock + n) n) g.entries)
    run_row r =
        let t = running_time good force r in
        chosen_row_lem force r (ran (tasks_of l) (g.clock + n) n) (λ e. refl) (job_after s (aged_job s n) s.chosen)
        (λ e q. stands_ran (tasks_of l) s.chosen (g.clock + n) n e q t.0 (omega (arith, r.within))
        (omega (arith, tied.clock, t.1, r.within))
        (ran_chosen good n r.known))

    -- under idle no entry changes
    advance_rows : (s.chosen ≡ idle) ⊎ Running s
        → (i : ℕ) → Follows (tasks_of l) i (job_after s (aged_job s n) i) (noted (tasks_of l) g (advance n) a).entries
    unfolding noted
    advance_rows (inl e) i =
        simp (eq-eqb g.chosen idle (tied.chosen force ∙ e))
        (idle_row i g.entries (λ h q. omega (arith, good.count, good.fit.few)) (tied.rows i))
    advance_rows (inr r) i =
        simp (ne_eqb g.chosen idle (λ q. omega (arith, tied.chosen force, r.known, good.count, good.fit.few)))
        (dite (ℕ_discrete i s.chosen) (λ e. rw e (run_row r))
        (λ ne. idle_row i _ (λ h. ne) (other_row force r (ran (tasks_of l) (g.clock + n) n) (λ e. refl) i ne)))

    tied_advance : (s.chosen ≡ idle) ⊎ Running s
        → Tied l (noted (tasks_of l) g (advance n) a)
        (changed s (s.clock + n) (jobs_with s (aged_job s n) s.count) (cond (eqb s.span n) 0 s.chosen) (s.span - n))
    unfolding noted
    tied_advance c = record {
      clock = omega (arith, tied.clock);
      chosen = λ rest. simp (ne_eqb s.span n (omega arith)) (tied.chosen force);
      rows = advance_rows c;
    }

-- ---- any call: one that is refused changes neither

module _ (l : List ℕ) (g : Ledger) (s : Session) (good : Good l s) (tied : Tied l g s) where
  tied_effect : {c : Call} {s' : Session} {a : Answer} → Effect s c s' a → Tied l (kept (tasks_of l) g (record { call = c; answer = shown a })) s'
  unfolding kept
  tied_effect (refusal a h) = simp (ne_eqb (shown a).number 0 (λ z. omega arith)) tied
  tied_effect (arrived k row ready) = tied_arrive l g s good tied k _ row ready
  tied_effect (chosen w) = tied_choose l g s good tied w _ _ _ refl
  tied_effect (advanced n ch high end) = tied_advance l g s good tied n _ ch.some high ch.runs
  tied_effect (finished ch r) = tied_finish l g s good tied _ ch.some r

  pub tied_call : (c : Call) → Tied l (kept (tasks_of l) g (record { call = c; answer = shown (outcome_of s c).answer })) (outcome_of s c).session
  tied_call c = tied_effect (effect_of s good.sound c)

  -- an entry that has no end has the deadline of a waiting job, which is ahead of the clock
  pub tied_timely : InTime (tasks_of l) g
  tied_timely =
      each_timely (tasks_of l) g.clock g.entries
      (λ i. follows_timely (tasks_of l) i g.clock
      (λ h some. omega (arith, tied.clock, time_left good i (omega (arith, good.count)) some)) (tied.rows i))
