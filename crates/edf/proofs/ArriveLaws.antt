-- More laws of specs/Arrive.antt: they rest on what a must-fail edit makes false. Assumes nothing.
use Prim.Native.Nat.{ℕ, suc, ◌+◌, ◌-◌, ◌≤◌, ◌<◌}
use Rattle.std.specs.Prelude.{◌≡◌, true}
use Rattle.std.proofs.Common.{sym, ◌∙◌, le_of_eq, le_trans}
use Rattle.std.proofs.Math.Logic.{dite}
use Rattle.std.proofs.Math.Nat.{mul-le-mul_left}
use native.Mathlib.Omega.{arith}
use Rattle.std.proofs.Math.Decide.{dec_le, ℕ_discrete}
use Rattle.bounded.specs.Sum.{sum_eq}
use Rattle.bounded.specs.Besides.{sum_besides, sum_besides_le}
use Rattle.bounded.specs.Tests.{both}
use Rattle.bounded.specs.Quotient.{ceil_div}
use Rattle.bounded.proofs.QuotientLaws.{ceil_more}
use Rattle.edf.specs.Jobs.{jobs_by_lem, jobs_none}
use Rattle.edf.proofs.JobsLaws.{jobs_mono, jobs_first, jobs_one, jobs_ceil, jobs_room}
use Rattle.edf.specs.Demand.{TaskSet, Lawful, row_request_lem, interference}
use Rattle.edf.specs.State.{State, soonest, pending, to_come, row_load, load, load_besides, WellFormed, WellFormedJob, Slack, SlackOn, pending_in, pending_idle, pending_later, on_le}
use Rattle.edf.specs.Steps.{Arrive}
use Rattle.edf.specs.Arrive.{ready_idle, Came, came_formed, kept_load, kept_formed}

module _ (τ : TaskSet) (ok : Lawful τ) (s : State) (formed : WellFormed τ s) where
  module _ (x j : ℕ) (some : 1 ≤ x) (row : j < τ.rows) where
    -- the jobs of row j that have not arrived yet and are due in the next x ticks
    abbrev coming : ℕ
    coming = jobs_by_lem (τ.D j) (τ.T j) (s.clock + x - soonest s j)

    -- they are no more than arrive in a stretch of x
    coming_all : coming ≤ ceil_div x (τ.T j)
    coming_all =
        let r = ok j row in
        le_trans (jobs_mono (τ.D j) (τ.T j) (s.clock + x - soonest s j) x (omega arith) (omega arith))
        (jobs_ceil (τ.D j) (τ.T j) x (omega arith) (omega arith))

    -- and fewer where a job of the row waits
    coming_fewer : WellFormedJob τ s j → coming < ceil_div x (τ.T j)
    coming_fewer g =
        let r = ok j row in
        ceil_more x (τ.T j) coming (omega arith)
        (dite (dec_le (s.next j) (s.clock + x))
        (λ p. omega (arith, jobs_room (τ.D j) (τ.T j) (s.clock + x - soonest s j) (omega arith) (omega arith)))
        (λ p. rw (jobs_none (τ.D j) (τ.T j) (s.clock + x - soonest s j) (omega arith)) (omega arith)))

    load_none : pending s (s.clock + x) j ≡ 0 → row_load τ s (s.clock + x) j ≤ row_request_lem τ x j
    unfolding to_come
    load_none e = omega (arith, e, mul-le-mul_left {m = coming} (τ.C j) coming_all)

    load_waiting : s.waits j ≡ true → s.due j ≤ s.clock + x → row_load τ s (s.clock + x) j ≤ row_request_lem τ x j
    unfolding to_come
    load_waiting w p =
        let g = formed j row w in
        omega (arith, pending_in s (s.clock + x) j w p, mul-le-mul_left {m = suc coming} (τ.C j) (coming_fewer g))

    -- by x from now a row asks for no more than may arrive of it in a stretch of x
    pub row_upto : row_load τ s (s.clock + x) j ≤ row_request_lem τ x j
    row_upto =
        both (s.waits j)
        (λ w. dite (dec_le (s.due j) (s.clock + x)) (λ p. load_waiting w p) (λ p. load_none (pending_later s (s.clock + x) j (omega arith))))
        (λ w. load_none (pending_idle s (s.clock + x) j w))

  -- and so do all rows but k
  pub besides_upto : (k x : ℕ) → 1 ≤ x → load_besides τ s k (s.clock + x) ≤ interference τ k x
  unfolding load_besides interference
  besides_upto k x some = sum_besides_le (row_load τ s (s.clock + x)) (row_request_lem τ x) τ.rows k (λ j. row_upto x j some)

  module _ (k : ℕ) (row : k < τ.rows) (ready : s.next k ≤ s.clock) where
    -- by the deadline of a job of row k that arrives now, the row itself asks for that job
    own_load : row_load τ s (s.clock + τ.D k) k ≡ τ.C k
    unfolding to_come
    own_load =
        let r = ok k row in
        let e : s.clock + τ.D k - soonest s k ≡ τ.D k = omega arith in
        rw (pending_idle s (s.clock + τ.D k) k ((ready_idle τ ok s formed) k row ready), e, jobs_one (τ.D k) (τ.T k) (omega arith) (omega arith)) (omega arith)

    -- so the load is C and what the other rows ask for
    pub load_arrived : load τ s (s.clock + τ.D k) ≡ load_besides τ s k (s.clock + τ.D k) + τ.C k
    unfolding load load_besides
    load_arrived = omega (arith, sum_besides (row_load τ s (s.clock + τ.D k)) τ.rows k row, own_load)

module _ (τ : TaskSet) (ok : Lawful τ) (s s' : State) (formed : WellFormed τ s) (k : ℕ) (st : Came τ k s s') where
  -- its part of the load does not change: where the new job is due by d, it waits now and is one less to come
  pub came_load : (d : ℕ) → row_load τ s' d k ≡ row_load τ s d k
  unfolding to_come
  came_load d =
      let r = ok k st.row in
      let e₁ : d - soonest s k ≡ d - s.clock = omega arith in
      let e₂ : d - soonest s' k ≡ d - s.clock - τ.T k = omega arith in
      rw (e₁, e₂, pending_idle s d k (ready_idle τ ok s formed k st.row st.ready))
      (dite (dec_le (s.clock + τ.D k) d)
      (λ p.
      rw (pending_in s' d k st.waits (omega arith), jobs_first (τ.D k) (τ.T k) (d - s.clock) (omega arith) (omega arith) (omega arith))
      (omega arith))
      (λ p.
      rw (
        pending_later s' d k (omega arith),
        jobs_none (τ.D k) (τ.T k) (d - s.clock) (omega arith),
        jobs_none (τ.D k) (τ.T k) (d - s.clock - τ.T k) (omega arith),
      )))

module _ (τ : TaskSet) (ok : Lawful τ) (s s' : State) (formed : WellFormed τ s) (k b : ℕ) (st : Arrive τ k b s s') where
  arrive_came : Came τ k s s'
  arrive_came = record {
    row = st.row;
    ready = st.ready;
    clock = st.clock;
    next = st.next;
    due = st.due;
    left = st.left;
    waits = st.waits;
  }

  pub arrive_load : (d : ℕ) → load τ s' d ≡ load τ s d
  unfolding load
  arrive_load d =
      sum_eq (row_load τ s' d) (row_load τ s d) τ.rows
      (λ i l. dite (ℕ_discrete i k) (λ e. rw e (came_load τ ok s s' formed k arrive_came d))
      (λ ne. kept_load τ s s' i (st.others i l ne) st.clock d))

  pub arrive_formed : WellFormed τ s'
  arrive_formed i l w =
      dite (ℕ_discrete i k) (λ e. rw e (came_formed τ ok s s' formed k arrive_came))
      (λ ne. let e = st.others i l ne in kept_formed τ s s' i e st.clock (formed i l (sym e.waits ∙ w)))

  -- a budget that the load leaves by the new deadline keeps the slack
  pub arrive_slack : load τ s (s.clock + τ.D k) + b ≤ τ.D k → Slack τ s → Slack τ s'
  arrive_slack h sl i l w =
      dite (ℕ_discrete i k)
      (λ e. rw (e, arrive_load (s'.due k), st.due) (omega arith))
      (λ ne.
      let e = st.others i l ne in
      rw (arrive_load (s'.due i), e.due) (omega (arith, e, st.budgets i l ne, sl i l (sym e.waits ∙ w))))

  pub arrive_on : (W W' : ℕ → Type 0) → ((d : ℕ) → W' d → W d) → SlackOn τ s W → SlackOn τ s' W'
  arrive_on = on_le τ ok s s' st.clock (λ d. le_of_eq (arrive_load d))
