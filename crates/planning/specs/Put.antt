-- The code that writes the lines `S` and `L`. Assumes nothing.
use Rattle.std.specs.Prelude.{ℕ, suc, ◌+◌, ◌-◌, ◌/◌, ◌≤◌, ◌<◌, ◌≡◌, List, ◌++◌, length}
use Rattle.std.proofs.Math.Path.{sym}
use Rattle.std.proofs.Common.{ap, ◌∙◌, div-le_self, arith, eq-eqb, ne_eqb, lt-ltb, le-ltb}
use Rattle.std.specs.Int.{div_ceil}
use Rattle.std.proofs.Math.Nat.{lt_of_mul-lt-mul_right}
use Rattle.std.proofs.lemmas.Grind.{div_ceil_times}
use Rattle.bounded.specs.Quotient.{ceil_div, ceil_after, ceil_least}
use Rattle.decimal.specs.Buffer.{Wrote, wrote_none, wrote_more, wrote_within}
use Rattle.decimal.specs.Joined.{Joined, joined_start, joined_room, joined_next, joined_all, joined_laws}
use Rattle.edf.specs.Jobs.{jobs_by_lem, jobs_none, jobs_some}
use Rattle.edf.specs.Demand.{TaskSet, demand}
use Rattle.lines.specs.Text.{field_text, head_text, line_text}
use Rattle.table.specs.declared.rows.Task.{Task}
use Rattle.table.specs.Rows.{FitRow}
use Rattle.planning.specs.Planning.{cost_of, cut_by, cut_of, cost_text, costs_of_row, costs_text, cut_text, cuts_text}

-- ---- a quotient rounded up, as the library says it

pub ceil_is : (a b : ℕ) → 1 ≤ b → div_ceil a b ≡ ceil_div a b
ceil_is a b h =
    let t = div_ceil_times a b h in
    let low : ceil_div a b ≤ div_ceil a b = ceil_least a b (div_ceil a b) h t.0 in
    let high : div_ceil a b < suc (ceil_div a b) = lt_of_mul-lt-mul_right b (omega (arith, t.1, ceil_after a b h)) in
    omega (arith, low, high)

-- ---- `cost`

module _ (τ : TaskSet) (i j : ℕ) where
  pub cost_own : i ≡ j → 1 ≡ cost_of τ i j
  unfolding cost_of
  cost_own e = sym (simp (eq-eqb i j e))

  pub cost_other : (k m : Task) (r : ℕ) → ¬ (i ≡ j) → FitRow τ i k → FitRow τ j m → r ≡ div_ceil k.deadline m.period → r ≡ cost_of τ i j
  unfolding cost_of
  cost_other k m r ne f g e = e ∙ ceil_is k.deadline m.period (omega (arith, g.rule.cost, g.rule.fits, g.rule.apart, g.row.period)) ∙ rw (f.row.deadline, g.row.period) (sym (simp (ne_eqb i j ne)))

pub ruleset cost_cases = (cost_own, cost_other)

-- ---- `put_cost`

module _ (τ : TaskSet) (i j : ℕ) (k : Task) (f : FitRow τ j k) (d : List ℕ) (at : ℕ) where
  pub cost_none : k.deadline ≤ k.run → Wrote 107 (cost_text τ i j) d d at at
  unfolding cost_text
  cost_none h = simp (le-ltb (τ.C j) (τ.D j) (omega (arith, f.row.run, f.row.deadline))) (wrote_none 107 d at)

  pub cost_put : (c : ℕ) (e g h : List ℕ) (p q r : ℕ) → k.run < k.deadline → at + 107 ≤ length d → c ≡ cost_of τ i j
      → Wrote 65 (head_text 0 83 0 i) d e at p → Wrote 21 (field_text j 9) e g p q → Wrote 21 (field_text c 10) g h q r
      → Wrote 107 (cost_text τ i j) d h at r
  unfolding cost_text
  cost_put c e g h p q r low room is x y z =
      let u = wrote_more 65 21 (head_text 0 83 0 i) (field_text j 9) d e g at p q (omega (arith, x.short)) x y in
      simp (lt-ltb (τ.C j) (τ.D j) (omega (arith, f.row.run, f.row.deadline)))
      (rw (← is) (wrote_more 86 21 (head_text 0 83 0 i ++ field_text j 9) (field_text c 10) d g h at q r (omega (arith, u.short)) u z))

pub ruleset put_cost_cases = (cost_none, cost_put)

-- ---- `put_row_costs` and `put_costs`; the code counts the rows

module _ (τ : TaskSet) (rows : ℕ) (is : rows ≡ τ.rows) (few : τ.rows ≤ 16) (d : List ℕ) (at : ℕ) where
  pub row_start : (i : ℕ) → at + 1712 ≤ length d → Joined (cost_text τ i) 107 rows d at 0 d at
  row_start i room = joined_start (cost_text τ i) 107 rows d at (omega arith)

  pub row_end : (i j : ℕ) (e : List ℕ) (p : ℕ) → Joined (cost_text τ i) 107 rows d at j e p → rows ≤ j → Wrote 1712 (costs_of_row τ i) d e at p
  unfolding costs_of_row
  row_end i j e p x h =
      rw is at (wrote_within _ 1712 _ d e at p (omega arith) (joined_all (cost_text τ i) 107 rows d at j e p x h))

  pub costs_start : at + 27392 ≤ length d → Joined (costs_of_row τ) 1712 rows d at 0 d at
  costs_start room = joined_start (costs_of_row τ) 1712 rows d at (omega arith)

  pub costs_end : (i : ℕ) (e : List ℕ) (p : ℕ) → Joined (costs_of_row τ) 1712 rows d at i e p → rows ≤ i → Wrote 27392 (costs_text τ) d e at p
  unfolding costs_text
  costs_end i e p x h =
      rw is at (wrote_within _ 27392 _ d e at p (omega arith) (joined_all (costs_of_row τ) 1712 rows d at i e p x h))

  pub cuts_start : (t : ℕ) → at + 1376 ≤ length d → Joined (cut_text τ t) 86 rows d at 0 d at
  cuts_start t room = joined_start (cut_text τ t) 86 rows d at (omega arith)

  pub cuts_end : (t i : ℕ) (e : List ℕ) (p : ℕ) → Joined (cut_text τ t) 86 rows d at i e p → rows ≤ i → Wrote 1376 (cuts_text τ t) d e at p
  unfolding cuts_text
  cuts_end t i e p x h =
      rw is at (wrote_within _ 1376 _ d e at p (omega arith) (joined_all (cut_text τ t) 86 rows d at i e p x h))

pub ruleset row_laws = (row_start, row_end, joined_laws)

pub ruleset costs_laws = (costs_start, costs_end, joined_laws)

-- ---- `cut`

module _ (τ : TaskSet) (t excess i : ℕ) (k : Task) (f : FitRow τ i k) where
  pub cut_early : t < k.deadline → 0 ≡ cut_of τ t i
  unfolding cut_of cut_by
  cut_early h = sym (simp (jobs_none (τ.D i) (τ.T i) t (omega (arith, f.row.deadline))))

  pub jobs_fit : (n : ℕ) → t < n → k.deadline ≤ t → (t - k.deadline) / k.period + 1 < n
  jobs_fit n h l =
      omega (arith, f.row.deadline, f.rule.cost, f.rule.fits, div-le_self (t - k.deadline) k.period)

  module _ (r : ℕ) (due : k.deadline ≤ t) (over : t + excess ≡ demand τ t) (up : r ≡ div_ceil excess ((t - k.deadline) / k.period + 1)) where
    is : r ≡ ceil_div excess ((t - k.deadline) / k.period + 1)
    is = up ∙ ceil_is excess ((t - k.deadline) / k.period + 1) (omega arith)

    -- the numbers of the definition
    fall_is : ceil_div (demand τ t - t) (jobs_by_lem (τ.D i) (τ.T i) t) ≡ r
    fall_is =
        let e : demand τ t - t ≡ excess = omega arith in
        rw (e, jobs_some (τ.D i) (τ.T i) t (omega (arith, f.row.deadline)), ← f.row.deadline, ← f.row.period) (sym is)

    some_jobs : ¬ (jobs_by_lem (τ.D i) (τ.T i) t ≡ 0)
    some_jobs z = omega (arith, jobs_some (τ.D i) (τ.T i) t (omega (arith, f.row.deadline)))

    pub cut_falls : r < k.run → r ≡ cut_of τ t i
    unfolding cut_of cut_by
    cut_falls h =
        sym (simp (ne_eqb (jobs_by_lem (τ.D i) (τ.T i) t) 0 some_jobs) (rw fall_is (simp (lt-ltb r (τ.C i) (omega (arith, f.row.run))))))

    pub cut_short : k.run ≤ r → 0 ≡ cut_of τ t i
    unfolding cut_of cut_by
    cut_short h =
        sym (simp (ne_eqb (jobs_by_lem (τ.D i) (τ.T i) t) 0 some_jobs) (rw fall_is (simp (le-ltb r (τ.C i) (omega (arith, f.row.run))))))

pub ruleset cut_cases = (cut_early, jobs_fit, cut_falls, cut_short)

-- ---- `put_cuts`

pub cuts_next : (τ : TaskSet) (t rows : ℕ) (d : List ℕ) (at i : ℕ) (e : List ℕ) (p k : ℕ) (g : List ℕ) (q : ℕ) → Joined (cut_text τ t) 86 rows d at i e p
    → i < rows → k ≡ cut_of τ t i → Wrote 86 (line_text 0 76 0 i k) e g p q → Joined (cut_text τ t) 86 rows d at (i + 1) g q
cuts_next τ t rows d at i e p k g q x h is w =
    joined_next (cut_text τ t) 86 rows d at i e p x (line_text 0 76 0 i k) g q h w (ap (line_text 0 76 0 i) is)

pub ruleset cuts_laws = (cuts_start, joined_room, cuts_next, cuts_end)
