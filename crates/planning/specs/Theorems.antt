-- The theorems of Statement.antt. Assumes nothing.
-- ---- a table with another C in row j
use Rattle.std.specs.Prelude.{ℕ, ◌+◌, ◌-◌, ◌*◌, ◌/◌, ◌≤◌, ◌<◌, ◌≡◌, refl, List, ltb, eqb, pos, ◌+ℤ◌, get_or, set}
use Rattle.std.proofs.Common.{sym, ◌∙◌, length-set}
use Rattle.std.proofs.Math.Path.{ap}
use Rattle.std.proofs.Math.Logic.{dite}
use Rattle.std.proofs.Math.Nat.{lt-div-mul-add}
use native.Mathlib.Omega.{arith}
use Rattle.std.proofs.Math.Decide.{ℕ_discrete, dec_lt}
use Rattle.std.proofs.Math.ListN.{length}
use Rattle.std.proofs.Math.Seq.{get_or-set_same, get_or-set_other}
use borrow.Author.Tests.{eqb-true, eqb-false, ltb-true, ltb-false}
use Rattle.bounded.specs.Tests.{both}
use Rattle.bounded.specs.Quotient.{ceil_div, ceil_after, ceil_least}
use Rattle.bounded.proofs.QuotientLaws.{ceil_more}
use Rattle.bounded.specs.Signed.{difference_falls}
use Rattle.edf.specs.Jobs.{jobs_by_lem}
use Rattle.edf.specs.Demand.{TaskSet, Shortened, interference, demand}
use Rattle.edf.specs.Longer.{Longer, interference_longer, interference_own, demand_longer}
use Rattle.table.specs.Rows.{tasks_of, Fit}
use Rattle.table.specs.Budgets.{budget_of}
use Rattle.table.specs.Verdict.{opinion_of}
use Rattle.table.proofs.TheoremsLaws.{first_overload_lem, shortened_later, refused_fit}
use Rattle.planning.specs.Planning.{raised, lowered, cut_by, cut_of}
use Rattle.planning.specs.Statement.{TickMatters, LeastFall, NoFall, CutExact, CutLater}

module _ (l : List ℕ) (j c : ℕ) (known : j < (tasks_of l).rows) where
  abbrev changed : List ℕ
  changed = set l (3 * j) c

  place : 3 * j < length l
  unfolding tasks_of
  place = omega (arith, known, lt-div-mul-add {a = length l} {b = 3} (omega arith))

  changed_rows : (tasks_of changed).rows ≡ (tasks_of l).rows
  unfolding tasks_of
  changed_rows = ap (λ (n : ℕ). n / 3) (length-set l (3 * j) c)

  changed_run : (tasks_of changed).C j ≡ c
  unfolding tasks_of
  changed_run = get_or-set_same l (3 * j) c 0 place

  changed_other : (i : ℕ) → ¬ (i ≡ j) → (tasks_of changed).C i ≡ (tasks_of l).C i
  unfolding tasks_of
  changed_other i ne = get_or-set_other l (3 * j) (3 * i) c 0 (λ e. ne (omega arith))

  changed_period : (i : ℕ) → (tasks_of changed).T i ≡ (tasks_of l).T i
  unfolding tasks_of
  changed_period i = get_or-set_other l (3 * j) (3 * i + 1) c 0 (λ e. omega arith)

  changed_deadline : (i : ℕ) → (tasks_of changed).D i ≡ (tasks_of l).D i
  unfolding tasks_of
  changed_deadline i = get_or-set_other l (3 * j) (3 * i + 2) c 0 (λ e. omega arith)

  -- it is longer or shorter by the difference,
  changed_longer : (x : ℕ) → c ≡ (tasks_of l).C j + x → Longer (tasks_of l) (tasks_of changed) j x
  changed_longer x e = record {
    rows = changed_rows;
    known = known;
    more = changed_run ∙ e;
    run = changed_other;
    period = changed_period;
    deadline = changed_deadline;
  }

  changed_shorter : (x : ℕ) → c + x ≡ (tasks_of l).C j → Longer (tasks_of changed) (tasks_of l) j x
  changed_shorter x e = record {
    rows = sym changed_rows;
    known = rw changed_rows known;
    more = rw changed_run (sym e);
    run = λ i ne. sym (changed_other i ne);
    period = λ i. sym (changed_period i);
    deadline = λ i. sym (changed_deadline i);
  }

  -- and keeps the row rule where the new C is from 1 to D
  pub changed_fit : 1 ≤ c → c ≤ (tasks_of l).D j → Fit (tasks_of l) → Fit (tasks_of changed)
  changed_fit low high fit = record {
    some = rw changed_rows fit.some;
    few = rw changed_rows fit.few;
    row = λ i h.
        let r = fit.row i (rw changed_rows at h) in
        let t = changed_period i in
        let d = changed_deadline i in
        dite (ℕ_discrete i j)
        (λ e.
        let z : (tasks_of changed).C i ≡ c = rw e changed_run in
        let y : (tasks_of l).D i ≡ (tasks_of l).D j = rw e refl in
        record { cost = omega arith; fits = omega arith; apart = omega (arith, r.apart); limit = omega (arith, r.limit) })
        (λ ne.
        let z = changed_other i ne in
        record { cost = omega (arith, r.cost); fits = omega (arith, r.fits); apart = omega (arith, r.apart); limit = omega (arith, r.limit) });
  }

-- ---- how much a tick matters

module _ (τ τ' : TaskSet) (j : ℕ) (m : Longer τ τ' j 1) where
  other_falls : (i : ℕ) → ¬ (i ≡ j) → budget_of τ i ≡ budget_of τ' i +ℤ pos (ceil_div (τ.D i) (τ.T j))
  unfolding budget_of
  other_falls i ne =
      rw (m.deadline i)
      (difference_falls (τ.D i) (τ.C i) (interference τ i (τ.D i)) (τ'.C i) (interference τ' i (τ.D i)) (ceil_div (τ.D i) (τ.T j))
      (omega (arith, m.run i ne, interference_longer τ τ' j 1 m i (τ.D i) ne)))

  own_falls : budget_of τ j ≡ budget_of τ' j +ℤ pos 1
  unfolding budget_of
  own_falls =
      rw (m.deadline j)
      (difference_falls (τ.D j) (τ.C j) (interference τ j (τ.D j)) (τ'.C j) (interference τ' j (τ.D j)) 1
      (omega (arith, m.more, interference_own τ τ' j 1 m (τ.D j))))

raised_longer : (l : List ℕ) (j x : ℕ) → j < (tasks_of l).rows → Longer (tasks_of l) (tasks_of (raised l j x)) j x
unfolding raised tasks_of
raised_longer l j x h = changed_longer l j (get_or l (3 * j) 0 + x) h x refl

pub tick_matters : TickMatters
tick_matters l j h fit fit' =
    let m = raised_longer l j 1 h in
    (λ i k ne. other_falls (tasks_of l) (tasks_of (raised l j 1)) j m i ne, own_falls (tasks_of l) (tasks_of (raised l j 1)) j m)

-- ---- what must go

-- by the numbers: a fall of x takes x * n off the demand d
module _ (t d n c : ℕ) (over : t < d) where
  cut_none : cut_by (d - t) n c ≡ 0 → (x : ℕ) → x < c → t + x * n < d
  unfolding cut_by
  cut_none e x h =
      both (eqb n 0) (λ z. let q = eqb-true n 0 z in rw q (omega arith))
      (λ z.
      let q = eqb-false n 0 z in
      both (ltb (ceil_div (d - t) n) c)
      (λ y.
      let k : ceil_div (d - t) n ≡ 0 = simp (z, y) at e in
      absurd (omega (arith, ceil_more (d - t) n 0 (omega arith) (omega arith))))
      (λ y. short x n (ceil_div (d - t) n) (omega (arith, ltb-false (ceil_div (d - t) n) c y)) (ceil_least (d - t) n x (omega arith))))
    where
      short : (x n k : ℕ) → x < k → (d - t ≤ x * n → k ≤ x) → t + x * n < d
      short x n k l f = dite (dec_lt (t + x * n) d) (λ p. p) (λ p. absurd (omega (arith, f (omega arith))))

  cut_some : (k : ℕ) → k ≡ cut_by (d - t) n c → (k ≡ 0 → ⊥) → (1 ≤ n) × (k < c) × (k ≡ ceil_div (d - t) n)
  unfolding cut_by
  cut_some k e ne =
      both (eqb n 0) (λ z. absurd (ne (e ∙ simp z)))
      (λ z.
      let q = eqb-false n 0 z in
      both (ltb (ceil_div (d - t) n) c)
      (λ y. let p = e ∙ simp (z, y) in (omega arith, omega (arith, ltb-true (ceil_div (d - t) n) c y), p))
      (λ y. absurd (ne (e ∙ simp (z, y)))))

lowered_longer : (l : List ℕ) (i x : ℕ) → i < (tasks_of l).rows → x ≤ (tasks_of l).C i → Longer (tasks_of (lowered l i x)) (tasks_of l) i x
unfolding lowered tasks_of
lowered_longer l i x h k = changed_shorter l i (get_or l (3 * i) 0 - x) h x (omega (arith, k))

lowered_fit : (l : List ℕ) (i x : ℕ) → i < (tasks_of l).rows → x < (tasks_of l).C i → Fit (tasks_of l) → Fit (tasks_of (lowered l i x))
unfolding lowered tasks_of
lowered_fit l i x h k fit = changed_fit l i (get_or l (3 * i) 0 - x) h (omega (arith, k)) (omega (arith, (fit.row i h).fits)) fit

-- the demand after a fall
lowered_demand : (l : List ℕ) (i x t : ℕ) → i < (tasks_of l).rows → x ≤ (tasks_of l).C i
    → demand (tasks_of (lowered l i x)) t + x * jobs_by_lem ((tasks_of l).D i) ((tasks_of l).T i) t ≡ demand (tasks_of l) t
lowered_demand l i x t h k =
    let m = lowered_longer l i x h k in
    sym (demand_longer (tasks_of (lowered l i x)) (tasks_of l) i x m t ∙ rw (← m.deadline i, ← m.period i) refl)

module _ (l : List ℕ) (t i : ℕ) (h : i < (tasks_of l).rows) (fit : Fit (tasks_of l)) (over : t < demand (tasks_of l) t) where
  abbrev jobs : ℕ
  jobs = jobs_by_lem ((tasks_of l).D i) ((tasks_of l).T i) t

  cut_least : (k : ℕ) → k ≡ cut_of (tasks_of l) t i → (k ≡ 0 → ⊥) → LeastFall l t i k
  unfolding cut_of
  cut_least k e ne =
      let c = cut_some t (demand (tasks_of l) t) jobs ((tasks_of l).C i) over k e ne in
      record {
        some = omega arith;
        fit = lowered_fit l i k h c.1 fit;
        enough =
            omega (arith, lowered_demand l i k t h (omega (arith, c.1)), ceil_after (demand (tasks_of l) t - t) jobs c.0, ap (λ (z : ℕ). z * jobs) c.2);
        least = λ x p.
            dite (dec_lt t (demand (tasks_of (lowered l i x)) t)) (λ y. y)
            (λ y. absurd (omega (
              arith,
              lowered_demand l i x t h (omega (arith, c.1)),
              ceil_least (demand (tasks_of l) t - t) jobs x c.0 (omega (arith, lowered_demand l i x t h (omega (arith, c.1)))),
              c.2,
            )));
      }

  cut_stays : cut_of (tasks_of l) t i ≡ 0 → NoFall l t i
  unfolding cut_of
  cut_stays e x p =
      omega (
        arith,
        lowered_demand l i x t h (omega (arith, p)),
        cut_none t (demand (tasks_of l) t) jobs ((tasks_of l).C i) over e x p,
      )

pub cut_exact : CutExact
cut_exact l e i h =
    let t = (opinion_of l).first in
    let fit = refused_fit l e in
    let over = (first_overload_lem l e).0 in
    (cut_least l t i h fit over (cut_of (tasks_of l) t i) refl, cut_stays l t i h fit over)

lowered_shortened : (l : List ℕ) (i x : ℕ) → i < (tasks_of l).rows → x ≤ (tasks_of l).C i → Shortened (tasks_of (lowered l i x)) (tasks_of l)
lowered_shortened l i x h k =
    let m = lowered_longer l i x h k in
    record {
      rows = sym m.rows;
      run = λ a b. dite (ℕ_discrete a i) (λ e. rw e (omega (arith, m.more))) (λ ne. omega (arith, m.run a ne));
      period = λ a b. sym (m.period a);
      deadline = λ a b. sym (m.deadline a);
    }

pub cut_later : CutLater
unfolding cut_of
cut_later l e i h ne f =
    let t = (opinion_of l).first in
    let k = cut_of (tasks_of l) t i in
    let over = (first_overload_lem l e).0 in
    let c = cut_some t (demand (tasks_of l) t) (jobs_by_lem ((tasks_of l).D i) ((tasks_of l).T i) t) ((tasks_of l).C i) over k refl ne in
    let low = ((cut_exact l e i h).0 ne).enough in
    let later = shortened_later l (lowered l i k) e f (lowered_shortened l i k h (omega (arith, c.1))) in
    dite (ℕ_discrete t (opinion_of (lowered l i k)).first)
    (λ q. absurd (omega (arith, (first_overload_lem (lowered l i k) f).0, ap (demand (tasks_of (lowered l i k))) q, low, q)))
    (λ q. omega arith)
