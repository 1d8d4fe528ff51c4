-- More laws of specs/Code.antt: they rest on what a must-fail edit makes false. Assumes nothing.
use Rattle.std.specs.Prelude.{ℕ, ◌+◌, ◌-◌, ◌<◌, ◌≡◌, Bool, not, List, eqb, set}
use Rattle.std.proofs.Math.Path.{sym}
use Rattle.std.proofs.Common.{subst, ◌∙◌}
use native.Mathlib.Omega.{arith}
use borrow.Author.Tests.{ltb-false}
use Rattle.bounded.specs.Tests.{both, gate, gate_on, gate_off}
use Rattle.bounded.specs.Sum.{sum_to, sum_next}
use Rattle.table.specs.declared.rows.Task.{Task}
use Rattle.table.specs.Rows.{tasks_of}
use Rattle.bounded.specs.Within.{Within}
use Rattle.table.specs.declared.inverse.Prepared.{Prepared}
use Rattle.table.specs.Inverse.{Ready}
use Rattle.session.specs.declared.Job.{Job}
use Rattle.session.specs.declared.Session.{Session}
use Rattle.edf.specs.State.{soonest, pending, to_come, row_load}
use Rattle.session.specs.Reading.{job_at, tasks, waits, state_of}
use Rattle.session.specs.Calls.{changed, aged_job}
use Rattle.session.specs.Jobs.{done_to, done_past, done_next}
use Rattle.calls.specs.Code.{ChoiceBounds, pending_by, pending_most, load_by, asked_of, Asking, place_of, aged_by, aged_row, place_due}

-- and that is the theory's
pending_row : (s : Session) (d i : ℕ) → pending_by (job_at s i) d ≡ pending (state_of s) d i
unfolding pending_by pending waits
pending_row s d i =
    both (waits s i) (λ w. sym (gate_on (waits s i) _ w))
    (λ w. omega (arith, ltb-false 0 (job_at s i).left w, pending_most (job_at s i) d, gate_off (waits s i) (pending_by (job_at s i) d) w))

load_row : (s : Session) (k : Prepared) (i x : ℕ) → Ready (tasks s) i k → load_by k (job_at s i) s.clock x ≡ row_load (tasks s) (state_of s) (s.clock + x) i
unfolding load_by to_come
load_row s k i x f =
    let r = f.row in
    let e : x - ((job_at s i).next - s.clock) ≡ s.clock + x - soonest (state_of s) i = omega arith in
    rw (r.run, r.deadline, r.period, e, pending_row s (s.clock + x) i)

module _ {s : Session} {i : ℕ} {l : List ℕ} {m : List Bool} {t : Task} {clock n : ℕ} (a : Asking s i l m t clock n) where
  module _ (j : ℕ) (u : j < n) where
    -- one row more
    module _ (k : Prepared) (x r : ℕ) (f : Ready (tasks_of l) j k) (w : Within 1000001000000 (gate (not (eqb j i)) (load_by k (job_at s j) clock t.deadline)) r) where
      pub asked_next : x ≡ sum_to (asked_of s i) j → x + r ≡ sum_to (asked_of s i) (j + 1)
      asked_next e =
          let d = a.task.row in
          let g : Ready (tasks s) j k = subst (λ (z : List ℕ). Ready (tasks_of z) j k) a.table f in
          sum_next (asked_of s i) j x r e (w.is ∙ rw (a.now, load_row s k j t.deadline g, d.deadline))

pub aged_next : (s q : Session) (n i at : ℕ) (j : Job) → q ≡ done_to s (aged_job s n) i → ChoiceBounds s → at ≡ place_of s.chosen
    → j ≡ aged_by (job_at q i) i s.chosen (job_at s at).due n
    → changed q q.clock (set q.jobs i j) q.chosen q.span ≡ done_to s (aged_job s n) (i + 1)
aged_next s q n i at j e b p f =
    done_next s (aged_job s n) q i j e
    ((rw (done_past s (aged_job s n) q i e) at f) ∙ aged_row s (job_at s at).due n i (place_due s at b p))
