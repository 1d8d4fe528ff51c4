-- More laws of specs/Mixed.antt: they rest on what a must-fail edit makes false. Assumes nothing.
use Rattle.std.specs.Prelude.{ℕ, ◌+◌, ◌≤◌, ◌<◌, ◌≡◌, Bool, true, false}
use Rattle.std.proofs.Common.{le_trans, arith}
use Rattle.edf.specs.Demand.{TaskSet, Lawful, Feasible}
use Rattle.edf.specs.State.{State, soonest, load, WellFormed, Head}
use Rattle.edf.specs.Steps.{Arrive, Run, Idle, Finish, Start}
use Rattle.edf.proofs.ArriveLaws.{arrive_slack, arrive_on}
use Rattle.edf.specs.Arrive.{arrive_soonest}
use Rattle.edf.proofs.AdvanceLaws.{run_slack, run_near, run_head, idle_slack, idle_all}
use Rattle.edf.specs.Advance.{run_soonest}
use Rattle.edf.proofs.FinishLaws.{over_on, finish_slack, start_all}
use Rattle.edf.specs.Finish.{over_soonest, start_slack}
use Rattle.edf.specs.Mixed.{Watched, MixedSlack}

-- where no row's next job can arrive earlier than before, no other d is watched
watched_le : (τ : TaskSet) (brittle : ℕ → Bool) (s s' : State) → ((i : ℕ) → i < τ.rows → soonest s i ≤ soonest s' i)
    → (d : ℕ) → Watched τ brittle s' d → Watched τ brittle s d
watched_le τ brittle s s' le d v =
    record { row = v.row; known = v.known; marked = v.marked; by = omega (arith, le v.row v.known) }

module _ (τ : TaskSet) (ok : Lawful τ) (brittle : ℕ → Bool) (s s' : State) where
  module _ (formed : WellFormed τ s) (k b : ℕ) (st : Arrive τ k b s s') where
    -- a job arrives with a budget that the load leaves by its deadline
    pub mixed_arrive : load τ s (s.clock + τ.D k) + b ≤ τ.D k → MixedSlack τ brittle s → MixedSlack τ brittle s'
    mixed_arrive h mx = record {
      slack = arrive_slack τ ok s s' formed k b st h mx.slack;
      watched = arrive_on τ ok s s' formed k b st _ _ (watched_le τ brittle s s' (arrive_soonest τ ok s s' formed k b st)) mx.watched;
    }

  module _ (k m : ℕ) (st : Run τ k m s s') where
    earlier : (d : ℕ) → Watched τ brittle s' d → Watched τ brittle s d
    earlier = watched_le τ brittle s s' (run_soonest τ ok s s' k m st)

    -- a head runs
    pub mixed_run_head : Feasible τ → Head τ s k → MixedSlack τ brittle s → MixedSlack τ brittle s'
    mixed_run_head fe head mx = record {
      slack = run_slack τ ok s s' k m st mx.slack;
      watched = run_head τ ok s s' k m st fe head _ _ earlier mx.watched;
    }

    -- a job runs whose deadline is no later than any that the next job of a brittle row can have
    pub mixed_run_near : ((j : ℕ) → j < τ.rows → brittle j ≡ true → s.due k ≤ soonest s j + τ.D j)
        → MixedSlack τ brittle s → MixedSlack τ brittle s'
    mixed_run_near near mx = record {
      slack = run_slack τ ok s s' k m st mx.slack;
      watched =
          run_near τ ok s s' k m st _ _
          (λ d v. let u = earlier d v in (u, le_trans (near u.row u.known u.marked) u.by))
          mx.watched;
    }

  -- nothing runs while no job waits
  pub mixed_idle : (m : ℕ) → Idle τ m s s' → Feasible τ → ((i : ℕ) → i < τ.rows → s.waits i ≡ false)
      → MixedSlack τ brittle s → MixedSlack τ brittle s'
  mixed_idle m st fe none mx =
      record { slack = idle_slack τ ok s s' m st mx.slack; watched = λ d v. idle_all τ ok s s' m st fe none d }

  pub mixed_finish : (k : ℕ) → Finish τ k s s' → MixedSlack τ brittle s → MixedSlack τ brittle s'
  mixed_finish k f mx = record {
    slack = finish_slack τ ok s s' k f mx.slack;
    watched = over_on τ ok s s' k f.over _ _ (watched_le τ brittle s s' (over_soonest τ ok s s' k f.over)) mx.watched;
  }

pub mixed_start : (τ : TaskSet) → Lawful τ → (brittle : ℕ → Bool) (s : State) → Start τ s → Feasible τ → MixedSlack τ brittle s
mixed_start τ ok brittle s st fe = record { slack = start_slack τ ok s st; watched = λ d v. start_all τ ok s st fe d }
