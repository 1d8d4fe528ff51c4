-- The table of every seed is admitted as loose, and heavy (docs/WORKLOAD.md). Assumes nothing.
use Rattle.std.specs.Prelude.{◌≡◌, ℕ, zero, suc, ◌+◌, ◌-◌, ◌*◌, ◌%◌, ◌<◌, ◌≤◌, min, Bool, true, false, not, List, [], ◌∷◌, ◌++◌, length, nat_le, nat_lt, slice_index, refl}
use Rattle.std.proofs.Common.{sym, ◌∙◌, mul-le-mul, mul-le-mul_left, length-append, get_or-append-add}
use Rattle.std.proofs.Math.Path.{ap}
use Rattle.std.proofs.Math.Logic.{dite}
use native.Mathlib.Omega.{arith}
use Rattle.std.proofs.Math.Decide.{dec_lt, ℕ_discrete}
use Rattle.std.proofs.Math.ListN.{get_or-append}
use borrow.Author.Tests.{leb-true, le-leb, lt-ltb, le-ltb, ne_eqb}
use Rattle.bounded.specs.Tests.{gate, gate_on, gate_off}
use Rattle.bounded.specs.Sum.{sum_to, sum_le, sum_add, sum_mul, sum_const}
use Rattle.bounded.specs.All.{all_to, all_at, all_of}
use Rattle.bounded.specs.Least.{least_from, least_none}
use Rattle.bounded.specs.Quotient.{ceil_div, ceil_least}
use Rattle.bounded.specs.Signed.{difference_negative}
use Rattle.edf.specs.Jobs.{jobs_by_lem}
use Rattle.edf.proofs.JobsLaws.{jobs_after, jobs_least}
use Rattle.edf.specs.Demand.{TaskSet, Lawful, row_demand_lem, row_request_lem, demand, request, interference, interference_request}
use Rattle.report.specs.Rows.{row_words, words_append, words_length}
use Rattle.table.specs.Rows.{horizon, tasks_of, row_rule, broken, first_broken_lem}
use Rattle.table.specs.Budgets.{budget_of, brittle, loose, loose_to}
use Rattle.table.specs.Verdict.{Opinion, admitted, bad_length, judged_of, opinion_of}
use Rattle.workload.specs.Table.{digit_of, row_count, row_by, row_of, rows_to, table_of}
use Rattle.workload.specs.Statement.{Heavy}

-- ---- the rows

pub count_few : (seed : ℕ) → (5 ≤ row_count seed) × (row_count seed ≤ 12)
unfolding row_count digit_of
count_few seed = (omega arith, omega arith)

-- row i of n rows: about 4 (n + i) ticks apart, of which it takes 3 or 4
pub record RowBounds (n i c t d : ℕ) : Type 0 where
  pub run : 3 ≤ c
  pub brief : c ≤ 4
  pub due : 4 * (n + i) ≤ d
  pub soon : d ≤ 4 * (n + i) + 1
  pub apart : d ≤ t
  pub often : t ≤ 4 * (n + i) + 3

pub row_bounds : (seed i : ℕ) → RowBounds (row_count seed) i (row_of seed i).0 (row_of seed i).1 (row_of seed i).2
unfolding row_of row_by digit_of
row_bounds seed i = record {
  run = omega arith;
  brief = omega arith;
  due = omega arith;
  soon = omega arith;
  apart = omega arith;
  often = omega arith;
}

-- ---- where they stand

pub rows_length : (seed k : ℕ) → length (rows_to seed k) ≡ k
unfolding rows_to
rows_length seed zero = refl
rows_length seed (suc k) = simp length-append (omega (arith, rows_length seed k))

-- the numbers of the first k rows
abbrev words_by : ℕ → ℕ → List ℕ
words_by seed k = row_words (rows_to seed k)

abbrev numbers_of : ℕ × ℕ × ℕ → List ℕ
numbers_of r = r.0 ∷ r.1 ∷ r.2 ∷ []

words_next : (seed k : ℕ) → words_by seed (suc k) ≡ words_by seed k ++ numbers_of (row_of seed k)
unfolding rows_to
words_next seed k = words_append (rows_to seed k) (row_of seed k ∷ [])

words_size : (seed k : ℕ) → length (words_by seed k) ≡ 3 * k
words_size seed k = words_length (rows_to seed k) ∙ ap (λ (n : ℕ). 3 * n) (rows_length seed k)

words_at : (seed k i j : ℕ) → i < k → j < 3 → slice_index (words_by seed k) (3 * i + j) ≡ slice_index (numbers_of (row_of seed i)) j
words_at seed zero i j l h = absurd (omega arith)
words_at seed (suc k) i j l h =
    ap (λ (w : List ℕ). slice_index w (3 * i + j)) (words_next seed k)
    ∙ dite (ℕ_discrete i k)
    (λ e.
    let place : 3 * i + j ≡ length (words_by seed k) + j = omega (arith, words_size seed k) in
    ap (λ (m : ℕ). slice_index (words_by seed k ++ numbers_of (row_of seed k)) m) place
    ∙ get_or-append-add (words_by seed k) (numbers_of (row_of seed k)) j 0
    ∙ ap (λ (m : ℕ). slice_index (numbers_of (row_of seed m)) j) (sym e))
    (λ ne.
    get_or-append (words_by seed k) (numbers_of (row_of seed k)) 0 (3 * i + j) (omega (arith, words_size seed k))
    ∙ words_at seed k i j (omega arith) h)

-- ---- the demand of n rows at 1,000,000, at the least

-- of row i of n rows, with a run of 3 ticks and the longest period
abbrev least_demand : ℕ → ℕ → ℕ
least_demand n i = 3 * jobs_by_lem (4 * (n + i) + 3) (4 * (n + i) + 3) horizon

unfoldable heavy_enough : ℕ → Bool
heavy_enough q = nat_le 500000 (sum_to (least_demand (5 + q)) (5 + q))

all_heavy : all_to heavy_enough 8 ≡ true
unfolding all_to heavy_enough sum_to jobs_by_lem gate
all_heavy = refl

heavy_at : (n : ℕ) → 5 ≤ n → n ≤ 12 → 500000 ≤ sum_to (least_demand n) n
unfolding heavy_enough
heavy_at n a b =
    let q : 5 + (n - 5) ≡ n = omega arith in
    rw q at (leb-true 500000 (sum_to (least_demand (5 + (n - 5))) (5 + (n - 5))) (all_at heavy_enough 8 all_heavy (n - 5) (omega arith)))

-- ---- the table

module _ (seed : ℕ) where
  abbrev n : ℕ
  n = row_count seed

  abbrev τ : TaskSet
  τ = tasks_of (table_of seed)

  table_length : length (table_of seed) ≡ 3 * n
  unfolding table_of
  table_length = words_size seed n

  pub table_rows : τ.rows ≡ n
  unfolding tasks_of
  table_rows = omega (arith, table_length)

  pub table_bounds : (i : ℕ) → i < n → RowBounds n i (τ.C i) (τ.T i) (τ.D i)
  unfolding tasks_of table_of
  table_bounds i l =
      let first : 3 * i ≡ 3 * i + 0 = omega arith in
      let c : τ.C i ≡ (row_of seed i).0 = ap (λ (m : ℕ). slice_index (table_of seed) m) first ∙ words_at seed n i 0 l (omega arith) in
      let t : τ.T i ≡ (row_of seed i).1 = words_at seed n i 1 l (omega arith) in
      let d : τ.D i ≡ (row_of seed i).2 = words_at seed n i 2 l (omega arith) in
      rw (c, t, d) (row_bounds seed i)

  lawful : Lawful τ
  lawful i l =
      let b = table_bounds i (omega (arith, table_rows)) in
      record { cost = omega (arith, b.run); fits = omega (arith, b.brief, b.due, count_few seed); apart = b.apart }

  -- ---- no V is negative

  -- what row j may ask for in a stretch of D of row i: two runs of 4 ticks if it comes before row i, and else one
  abbrev share : ℕ → ℕ → ℕ
  share i j = 4 + 4 * gate (nat_lt j i) 1

  asked : (i j : ℕ) → i < n → j < n → row_request_lem τ (τ.D i) j ≤ share i j
  asked i j l h =
      let a = table_bounds i l in
      let b = table_bounds j h in
      let some : 1 ≤ τ.T j = omega (arith, b.apart, b.due, count_few seed) in
      dite (dec_lt j i)
      (λ u.
      omega (
        arith,
        gate_on (nat_lt j i) 1 (lt-ltb j i u),
        mul-le-mul {n₁ = τ.C j} {m₁ = ceil_div (τ.D i) (τ.T j)} {n₂ = 4} {m₂ = 2} b.brief
            (ceil_least (τ.D i) (τ.T j) 2 some (omega (arith, a.soon, b.apart, b.due))),
      ))
      (λ u.
      omega (
        arith,
        gate_off (nat_lt j i) 1 (le-ltb j i (omega arith)),
        mul-le-mul {n₁ = τ.C j} {m₁ = ceil_div (τ.D i) (τ.T j)} {n₂ = 4} {m₂ = 1} b.brief
            (ceil_least (τ.D i) (τ.T j) 1 some (within u a b)),
      ))
    where
      within : ¬ (j < i) → RowBounds n i (τ.C i) (τ.T i) (τ.D i) → RowBounds n j (τ.C j) (τ.T j) (τ.D j) → τ.D i ≤ 1 * τ.T j
      within u a b = dite (ℕ_discrete j i) (λ e. rw e (omega (arith, a.apart))) (λ ne. omega (arith, a.soon, b.apart, b.due))

  below_count : (i k : ℕ) → sum_to (λ j. gate (nat_lt j i) 1) k ≡ min i k
  unfolding sum_to
  below_count i zero = omega arith
  below_count i (suc k) =
      dite (dec_lt k i) (λ u. omega (arith, below_count i k, gate_on (nat_lt k i) 1 (lt-ltb k i u)))
      (λ u. omega (arith, below_count i k, gate_off (nat_lt k i) 1 (le-ltb k i (omega arith))))

  shares : (i : ℕ) → i < n → sum_to (share i) n ≡ 4 * (n + i)
  shares i l =
      sum_add (λ j. 4) (λ j. 4 * gate (nat_lt j i) 1) n
      ∙ omega (arith, sum_const 4 n, sum_mul 4 (λ j. gate (nat_lt j i) 1) n, below_count i n)

  firm : (i : ℕ) → i < n → brittle τ i ≡ false
  unfolding brittle budget_of request
  firm i l =
      difference_negative (τ.D i) (τ.C i) (interference τ i (τ.D i))
      ∙ le-ltb (τ.D i) (τ.C i + interference τ i (τ.D i))
      (omega (
        arith,
        interference_request τ lawful i (omega (arith, table_rows)),
        ap (sum_to (row_request_lem τ (τ.D i))) table_rows,
        sum_le (row_request_lem τ (τ.D i)) (share i) n (λ j h. asked i j l h),
        shares i l,
        (table_bounds i l).due,
      ))

  -- ---- the opinion

  whole : (i : ℕ) → i < τ.rows → broken τ i ≡ false
  unfolding broken row_rule
  whole i l =
      let r = lawful i l in
      let b = table_bounds i (omega (arith, table_rows)) in
      simp (
        le-leb 1 (τ.C i) r.cost,
        le-leb (τ.C i) (τ.D i) r.fits,
        le-leb (τ.D i) (τ.T i) r.apart,
        le-leb (τ.T i) horizon (omega (arith, b.often, table_rows, count_few seed)),
      )

  length_good : bad_length (length (table_of seed)) ≡ false
  unfolding bad_length
  length_good =
      let c = count_few seed in
      let rest : length (table_of seed) % 3 ≡ 0 = omega (arith, table_length) in
      simp (
        ne_eqb (length (table_of seed)) 0 (λ z. omega (arith, table_length)),
        le-ltb 48 (length (table_of seed)) (omega (arith, table_length)),
        rest,
      )

  pub opinion_is : opinion_of (table_of seed) ≡ admitted 1 τ
  unfolding opinion_of first_broken_lem judged_of loose loose_to
  opinion_is =
      simp (
        length_good,
        le-ltb (least_from (broken τ) 0 τ.rows) τ.rows (omega (arith, least_none (broken τ) 0 τ.rows (λ j l h. whole j (omega arith)))),
        all_of (λ i. not (brittle τ i)) τ.rows (λ i l. ap not (firm i (omega (arith, table_rows)))),
      )

  -- ---- the demand at 1,000,000

  demanded : (i : ℕ) → i < n → least_demand n i ≤ row_demand_lem τ horizon i
  demanded i l =
      let b = table_bounds i l in
      let most : ℕ = 4 * (n + i) + 3 in
      let some : 1 ≤ τ.T i = omega (arith, b.apart, b.due, count_few seed) in
      let jobs : ℕ = jobs_by_lem (τ.D i) (τ.T i) horizon in
      mul-le-mul {n₁ = 3} {m₁ = jobs_by_lem most most horizon} {n₂ = τ.C i} {m₂ = jobs} b.run
      (jobs_least most most horizon jobs (omega arith)
      (omega (arith, jobs_after (τ.D i) (τ.T i) horizon some, mul-le-mul_left {m = τ.T i} {n = most} jobs (omega (arith, b.often)), b.soon)))

  -- THE TABLE OF EVERY SEED IS ADMITTED, LOOSE, AND HEAVY
  pub every_heavy : Heavy (table_of seed)
  unfolding demand
  every_heavy = record {
    admitted = ap (λ (a : Opinion). a.number) opinion_is;
    loose = ap (λ (a : Opinion). a.first) opinion_is;
    heavy =
        omega (
          arith,
          ap (sum_to (row_demand_lem τ horizon)) table_rows,
          sum_le (least_demand n) (row_demand_lem τ horizon) n demanded,
          heavy_at n (count_few seed).0 (count_few seed).1,
        );
  }
