-- More laws of specs/Arrived.antt: they rest on what a must-fail edit makes false. Assumes nothing.
use Rattle.std.specs.Prelude.{ℕ, ◌≤◌, List, pos, ◌-ℤ◌}
use Rattle.std.proofs.Common.{arith, ltb-true}
use Rattle.bounded.specs.Signed.{difference_is}
use Rattle.edf.specs.Demand.{TaskSet}
use Rattle.table.specs.Rows.{tasks_of}
use Rattle.session.specs.declared.Job.{Job}
use Rattle.session.specs.Reading.{job_at, waits}
use Rattle.session.specs.Order.{arrival_of}
use Rattle.guarantee.specs.Ledger.{Entry}
use Rattle.guarantee.specs.Statement.{session_from, here, past, Arrived, ArrivalsTold}
use Rattle.guarantee.specs.TiesRow.{over, waiting, Follows, nothing, other, latest}
use Rattle.guarantee.specs.Keeps.{good_reached}
use Rattle.guarantee.proofs.GuaranteeLaws.{tied_reached}

-- where a job waits, the latest entry of its row arrived D before its deadline
follows_arrived : (τ : TaskSet) (i : ℕ) (j : Job) (l : List Entry) → 1 ≤ j.left → Follows τ i j l → Arrived i (pos j.due -ℤ pos (τ.D i)) l
follows_arrived τ i j l some (nothing z) = absurd (omega arith)
follows_arrived τ i j l some (other ne r) =
    let a = follows_arrived τ i j _ some r in
    record { entry = a.entry; latest = past ne a.latest; waiting = a.waiting; arrival = a.arrival }
follows_arrived τ i j l some (latest q (over x z p h) r) = absurd (omega arith)
follows_arrived τ i j l some (latest {e = e} q (waiting b u p a c) r) = record {
  entry = e;
  latest = here q;
  waiting = p;
  arrival = difference_is e.arrival (τ.D i) j.due a;
}

pub arrivals_told : ArrivalsTold
unfolding arrival_of waits
arrivals_told l e s₀ calls i h w =
    let s = session_from s₀ l calls in
    rw (good_reached l e s₀ calls).rows
    (follows_arrived (tasks_of l) i (job_at s i) _ (ltb-true 0 (job_at s i).left w) ((tied_reached l e s₀ calls).rows i))
