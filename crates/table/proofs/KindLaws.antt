-- More laws of specs/Kind.antt: they rest on what a must-fail edit makes false. Assumes nothing.
use Rattle.std.specs.Prelude.{ℕ, ◌≡◌, List}
use Rattle.std.proofs.Common.{arith}
use borrow.Author.Tests.{eq-eqb}
use Rattle.table.specs.Rows.{tasks_of}
use Rattle.table.specs.Statement.{HasKind}
use Rattle.table.specs.Verdict.{opinion_of, kind_of}
use Rattle.table.specs.Opinion.{is_loose_lem, is_marks, heavy_kind_lem}
use Rattle.table.proofs.TheoremsLaws.{kind_means}
use Rattle.table.specs.Kind.{kind_length, kind_row, kind_fit, kind_judged}

pub ruleset kind_cases = (kind_length, kind_row, kind_fit, kind_judged)

-- ---- what a kind says of the opinion

module _ (l : List ℕ) where
  first_some : (opinion_of l).number ≡ 0 → (opinion_of l).first ≡ 0 → ⊥
  first_some z = by (kind_means l z)
    where
      by : {k : ℕ} → HasKind (tasks_of l) k → k ≡ 0 → ⊥
      by (HasKind.is_loose h) e = omega arith
      by (HasKind.is_tight h) e = omega arith
      by (HasKind.is_mixed i j p a q b) e = omega arith

  pub kind_none : kind_of l ≡ 0 → (opinion_of l).number ≡ 0 → ⊥
  unfolding kind_of
  kind_none e z = first_some z (simp (eq-eqb (opinion_of l).number 0 z) at e)
