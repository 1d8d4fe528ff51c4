-- More laws of specs/Theorems.antt: they rest on what a must-fail edit makes false. Assumes nothing.
use Rattle.std.specs.Prelude.{ℕ, ◌+◌, ◌*◌, ◌<◌, List, get_or}
use Rattle.std.proofs.Math.Logic.{dite}
use native.Mathlib.Omega.{arith}
use Rattle.std.proofs.Math.Decide.{ℕ_discrete}
use borrow.Author.Tests.{eq-eqb, ne_eqb}
use Rattle.table.specs.Rows.{tasks_of, Fit}
use Rattle.planning.specs.Planning.{raised, cost_of}
use Rattle.planning.specs.Statement.{CostExact}
use Rattle.planning.specs.Theorems.{changed_fit, tick_matters}

raised_fit : (l : List ℕ) (j : ℕ) → j < (tasks_of l).rows → (tasks_of l).C j < (tasks_of l).D j → Fit (tasks_of l) → Fit (tasks_of (raised l j 1))
unfolding raised tasks_of
raised_fit l j h room fit = changed_fit l j (get_or l (3 * j) 0 + 1) h (omega arith) (omega (arith, room)) fit

pub cost_exact : CostExact
unfolding cost_of
cost_exact l i j h k fit room =
    let fit' = raised_fit l j k room fit in
    let m = tick_matters l j k fit fit' in (
      fit',
      dite (ℕ_discrete i j)
          (λ e. simp (eq-eqb i j e) (rw e m.1))
          (λ ne. simp (ne_eqb i j ne) (m.0 i h ne)),
    )
