-- An arrival keeps a session good (docs/SPECIFICATION.md §5.3). Assumes nothing.
use Rattle.std.specs.Prelude.{ℕ, ◌≤◌, ◌<◌, ◌≡◌, refl}
use Rattle.std.proofs.Common.{sym, ◌∙◌}
use Rattle.std.proofs.Math.Path.{ap}
use native.Mathlib.Omega.{arith}
use Rattle.std.proofs.Math.Dec.{ltb}
use Rattle.std.proofs.Math.ListN.{length-set}
use borrow.Author.Tests.{lt-ltb}
use Rattle.edf.specs.Steps.{Arrive}
use Rattle.edf.proofs.ArriveLaws.{load_arrived}
use Rattle.edf.specs.Safe.{Step}
use Rattle.table.specs.Rows.{fit_lawful}
use Rattle.session.specs.declared.Job.{Job}
use Rattle.session.specs.declared.Session.{Session}
use Rattle.session.specs.Reading.{job_at, rows_of, tasks, waits, state_of}
use Rattle.session.specs.Calls.{new_budget, arrived_job}
use Rattle.session.specs.Arrive.{new_brittle, new_whole, with_arrived, arrived_at, arrived_other, arrived_sound}
use Rattle.guarantee.specs.Good.{Good, good_places}
use Rattle.guarantee.specs.KeepsStep.{job_same, good_facts, good_step}

module _ (s : Session) (g : Good (rows_of s) s) (k : ℕ) (row : k < s.count) (ready : (job_at s k).next ≤ s.clock) where
  abbrev after : Session
  after = with_arrived s k

  known : k < (tasks s).rows
  known = omega (arith, g.count)

  is : job_at after k ≡ arrived_job s k
  is = arrived_at s k (omega (arith, good_places g))

  pub arrive_step : Arrive (tasks s) k (new_budget s k) (state_of s) (state_of after)
  unfolding waits
  arrive_step = record {
    row = known;
    ready = ready;
    clock = refl;
    next = ap (λ (j : Job). j.next) is;
    due = ap (λ (j : Job). j.due) is;
    left = ap (λ (j : Job). j.left) is;
    budget = ap (λ (j : Job). j.budget) is;
    waits = ap (λ (j : Job). ltb 0 j.left) is ∙ lt-ltb 0 ((tasks s).C k) (g.fit.row k known).cost;
    others = λ i l ne. job_same s after i (arrived_other s k i ne);
    budgets = λ i l ne. ap (λ (j : Job). j.budget) (arrived_other s k i ne);
  }

  pub good_arrive : Good (rows_of s) after
  unfolding rows_of
  good_arrive = record {
    fit = g.fit;
    feasible = g.feasible;
    rows = refl;
    count = g.count;
    places = length-set s.jobs k (arrived_job s k) ∙ g.places;
    sound = arrived_sound s k (good_places g) (sym g.count) (good_facts s g) row;
    safe = good_step s g (state_of after)
        (Step.arrived k (new_budget s k) arrive_step (new_brittle s k)
        (λ e.
        omega (
          arith,
          load_arrived (tasks s) (fit_lawful (tasks s) g.fit) (state_of s) g.safe.formed k known ready,
          new_whole s k (good_facts s g) known (sym g.count) e,
        )));
    apt = λ n. absurd (omega arith);
  }
