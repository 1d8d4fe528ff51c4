-- What holds of every session that a list of calls leads to. Assumes nothing.
use Rattle.std.specs.Prelude.{ℕ, ◌≤◌, ◌<◌, ◌≡◌, true, List, length}
use Rattle.std.proofs.Common.{arith}
use Rattle.edf.specs.Demand.{TaskSet, Feasible}
use Rattle.edf.specs.State.{State}
use Rattle.edf.specs.Safe.{Safe, MayRun, MayIdle}
use Rattle.table.specs.Rows.{tasks_of, Fit}
use Rattle.table.specs.Budgets.{brittle}
use Rattle.session.specs.declared.Session.{Session}
use Rattle.session.specs.Reading.{idle, rows_of, state_of}
use Rattle.session.specs.Sound.{sound}

-- c, a row or idle, may run with every deadline kept
pub record Apt (τ : TaskSet) (s : State) (c : ℕ) : Type 0 where
  pub row : ¬ (c ≡ idle) → MayRun τ (brittle τ) s c
  pub rest : c ≡ idle → MayIdle τ (brittle τ) s

-- s is a session of the admitted table l: it holds l's rows, is sound, no deadline can be lost from it, and the choice in
-- force, if there is one, loses none. (Soundness does not say so: a forged session may have another choice in force.)
pub record Good (l : List ℕ) (s : Session) : Type 0 where
  pub fit : Fit (tasks_of l)
  pub feasible : Feasible (tasks_of l)
  pub rows : rows_of s ≡ l
  pub count : s.count ≡ (tasks_of l).rows
  pub places : length s.jobs ≡ 16
  pub sound : sound s ≡ true
  pub safe : Safe (tasks_of l) (brittle (tasks_of l)) (state_of s)
  pub apt : 1 ≤ s.span → Apt (tasks_of l) (state_of s) s.chosen

module _ {l : List ℕ} {s : Session} (good : Good l s) where
  -- every row has its place among the jobs
  pub good_places : s.count ≤ length s.jobs
  good_places = omega (arith, good.count, good.places, good.fit.few)

  -- the session's rows are the table's
  pub in_table : (i : ℕ) → i < s.count → i < (tasks_of l).rows
  in_table i h = omega (arith, good.count)

  pub in_session : (i : ℕ) → i < (tasks_of l).rows → i < s.count
  in_session i h = omega (arith, good.count)
