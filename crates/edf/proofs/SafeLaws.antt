-- More laws of specs/Safe.antt: they rest on what a must-fail edit makes false. Assumes nothing.
use Rattle.std.specs.Prelude.{ℕ, ◌+◌, ◌≤◌, ◌≡◌, Bool, true, false}
use Rattle.std.proofs.Common.{sym, ◌∙◌, true≢false, inl, inr}
use Rattle.bounded.specs.Tests.{both}
use Rattle.edf.specs.Demand.{TaskSet, Lawful, Feasible}
use Rattle.edf.specs.State.{State, load}
use Rattle.edf.specs.Steps.{Arrive, Run, Idle, Start}
use Rattle.edf.proofs.ArriveLaws.{arrive_formed}
use Rattle.edf.specs.Arrive.{arrive_elapsed}
use Rattle.edf.proofs.AdvanceLaws.{run_formed, idle_formed, idle_slack}
use Rattle.edf.specs.Advance.{run_elapsed, idle_elapsed}
use Rattle.edf.specs.Finish.{over_formed, over_elapsed, start_formed, start_elapsed}
use Rattle.edf.specs.Mixed.{MixedSlack}
use Rattle.edf.proofs.MixedLaws.{mixed_arrive, mixed_run_head, mixed_run_near, mixed_idle, mixed_finish, mixed_start}
use Rattle.edf.proofs.MixedMore.{mixed_arrive_brittle}
use Rattle.edf.specs.Safe.{Safe, MayRun, MayIdle, Step, arrived, ran, idled, finished}

pub safe_start : (τ : TaskSet) → Lawful τ → Feasible τ → (brittle : ℕ → Bool) (s : State) → Start τ s → Safe τ brittle s
safe_start τ ok fe brittle s st =
    record { formed = start_formed τ ok s st; slack = mixed_start τ ok brittle s st fe; elapsed = start_elapsed τ ok s st }

module _ (τ : TaskSet) (ok : Lawful τ) (fe : Feasible τ) (brittle : ℕ → Bool) (s s' : State) (v : Safe τ brittle s) where
  arrive_mixed : (k b : ℕ) → Arrive τ k b s s' → (brittle k ≡ true → b ≡ 0)
      → (brittle k ≡ false → load τ s (s.clock + τ.D k) + b ≤ τ.D k) → MixedSlack τ brittle s'
  arrive_mixed k b st none most =
      both (brittle k) (λ e. mixed_arrive_brittle τ ok brittle s s' v.formed k b st e (none e) v.slack)
      (λ e. mixed_arrive τ ok brittle s s' v.formed k b st (most e) v.slack)

  run_mixed : (k m : ℕ) → Run τ k m s s' → MayRun τ brittle s k → MixedSlack τ brittle s'
  run_mixed k m st (inl head) = mixed_run_head τ ok brittle s s' k m st fe head v.slack
  run_mixed k m st (inr near) = mixed_run_near τ ok brittle s s' k m st near v.slack

  -- where no row is brittle, no deadline is watched
  idle_mixed : (m : ℕ) → Idle τ m s s' → MayIdle τ brittle s → MixedSlack τ brittle s'
  idle_mixed m st (inl none) = mixed_idle τ ok brittle s s' m st fe none v.slack
  idle_mixed m st (inr firm) = record {
    slack = idle_slack τ ok s s' m st v.slack.slack;
    watched = λ d w. absurd (true≢false (sym w.marked ∙ firm w.row w.known));
  }

  pub safe_step : Step τ brittle s s' → Safe τ brittle s'
  safe_step (arrived k b st none most) = record {
    formed = arrive_formed τ ok s s' v.formed k b st;
    slack = arrive_mixed k b st none most;
    elapsed = arrive_elapsed τ ok s s' v.formed k b st v.elapsed;
  }
  safe_step (ran k m st may) = record {
    formed = run_formed τ ok s s' k m st v.formed v.slack.slack;
    slack = run_mixed k m st may;
    elapsed = run_elapsed τ ok s s' k m st v.elapsed;
  }
  safe_step (idled m st may) = record {
    formed = idle_formed τ ok s s' m st v.formed v.slack.slack;
    slack = idle_mixed m st may;
    elapsed = idle_elapsed τ ok s s' m st v.elapsed;
  }
  safe_step (finished k f) = record {
    formed = over_formed τ ok s s' k f.over v.formed;
    slack = mixed_finish τ ok brittle s s' k f v.slack;
    elapsed = over_elapsed τ ok s s' k f.over v.elapsed;
  }
