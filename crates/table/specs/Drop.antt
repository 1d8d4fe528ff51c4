-- An upper bound on every exceeded tick up to t, from the rows' utilisation: the search may go on below it
-- (docs/SPECIFICATION.md §3.1). Rows with a deadline shortly before t are counted by their share of time, and the others by
-- what is due of them by t. Assumes nothing.
use Rattle.std.specs.Prelude.{ℕ, suc, ◌+◌, ◌-◌, ◌*◌, ◌/◌, ◌≤◌, ◌<◌, ◌≡◌, refl, Bool, true, false, cond, leb, ltb}
use Rattle.std.proofs.Common.{sym, ap, ◌∙◌, div-mul-le_self, Fits}
use Rattle.std.proofs.Math.Bool.{not}
use Rattle.std.proofs.Math.Logic.{dite}
use native.Mathlib.Omega.{arith}
use Rattle.std.proofs.Math.Nat.{mul-le-mul, mul-le-mul_left, mul-le-mul_right, lt-div-mul-add}
use Rattle.std.proofs.Math.Decide.{dec_le}
use Rattle.std.specs.Int.{w64}
use borrow.Author.Tests.{le-leb, lt-leb, lt-ltb, le-ltb, ltb-true, ltb-false}
use Rattle.bounded.specs.Tests.{both, gate, gate_on, gate_off}
use Rattle.bounded.specs.Sum.{sum_to, sum_le, sum_add, sum_mul, sum_start, sum_next}
use Rattle.edf.specs.Jobs.{jobs_by_lem}
use Rattle.edf.proofs.JobsLaws.{jobs_mono, jobs_room}
use Rattle.edf.specs.Demand.{TaskSet, row_demand_lem, demand}
use Rattle.table.specs.declared.inverse.Prepared.{Prepared}
use Rattle.table.specs.declared.drop.Holding.{Holding}
use Rattle.table.specs.Rows.{Fit}
use Rattle.bounded.specs.Within.{Within}
use Rattle.table.specs.Bound.{product_small}
use Rattle.table.specs.Demand.{jobs_small, jobs_fits}
use Rattle.table.specs.Inverse.{inverse_of_lem, inverse_over, inverse_under, inverse_more, Ready, Tame, tame_of}
use Rattle.table.specs.Sieve.{Sieved, given_back}
use Rattle.table.specs.Leap.{scale}

-- a job of row i falls due after b, up to t: the last one by t is due at (jobs by t) * T - (T - D)
unfoldable pub due_of : TaskSet → ℕ → ℕ → ℕ → Bool
due_of τ t b i = ltb (b + (τ.T i - τ.D i)) (τ.T i * jobs_by_lem (τ.D i) (τ.T i) t)

-- a row's share of time, rounded up
unfoldable pub rise_by : ℕ → ℕ → ℕ
rise_by C T = C * inverse_of_lem T / 1024 + 1

-- the share of time of a row of p; what it is ahead by, since its deadline comes before its period's end; and
-- what is due by t of a row that is not of p
unfoldable pub rise_of : TaskSet → (ℕ → Bool) → ℕ → ℕ
rise_of τ p i = gate (p i) (rise_by (τ.C i) (τ.T i))

unfoldable pub lead_of : TaskSet → (ℕ → Bool) → ℕ → ℕ
lead_of τ p i = rise_of τ p i * (τ.T i - τ.D i)

unfoldable pub held_of : TaskSet → ℕ → (ℕ → Bool) → ℕ → ℕ
held_of τ t p i = gate (not (p i)) (row_demand_lem τ t i)

abbrev pub rises : TaskSet → (ℕ → Bool) → ℕ
rises τ p = sum_to (rise_of τ p) τ.rows

abbrev pub leads : TaskSet → (ℕ → Bool) → ℕ
leads τ p = sum_to (lead_of τ p) τ.rows

abbrev pub held : TaskSet → ℕ → (ℕ → Bool) → ℕ
held τ t p = sum_to (held_of τ t p) τ.rows

-- a share is no less than C / T
rise_high : (C T : ℕ) → 1 ≤ T → scale * C ≤ rise_by C T * T
unfolding rise_by
rise_high C T h =
    omega (
      arith,
      mul-le-mul_right T (lt-div-mul-add {a = C * inverse_of_lem T} {b = 1024} (omega arith)),
      mul-le-mul_left C (inverse_over T h),
    )

-- whatever rows are counted by their share
module _ (τ : TaskSet) (fit : Fit τ) (t : ℕ) (p : ℕ → Bool) (x : ℕ) (h : x ≤ t) where
  row_over : (i : ℕ) → i < τ.rows → scale * row_demand_lem τ x i ≤ x * rise_of τ p i + lead_of τ p i + scale * held_of τ t p i
  unfolding rise_of lead_of held_of
  row_over i l =
      let u = fit.row i l in
      let J = jobs_by_lem (τ.D i) (τ.T i) x in
      let v = rise_by (τ.C i) (τ.T i) in
      both (p i)
      (λ e.
      let lead = τ.T i - τ.D i in
      let room : J * τ.T i ≤ x + lead = omega (arith, jobs_room (τ.D i) (τ.T i) x (omega arith) (omega arith)) in
      rw (gate_on (p i) v e, gate_off (not (p i)) (row_demand_lem τ t i) (ap not e))
      (omega (arith, mul-le-mul_right J (rise_high (τ.C i) (τ.T i) (omega arith)), mul-le-mul_left v room)))
      (λ e. rw (gate_off (p i) v e, gate_on (not (p i)) (row_demand_lem τ t i) (ap not e))
      (omega (
        arith,
        mul-le-mul_left (scale * τ.C i) (jobs_mono (τ.D i) (τ.T i) x t (omega arith) h),
      )))

  pub demand_over : scale * demand τ x ≤ x * rises τ p + leads τ p + scale * held τ t p
  unfolding demand
  demand_over =
      omega (
        arith,
        sum_le (λ i. scale * row_demand_lem τ x i) (λ i. x * rise_of τ p i + lead_of τ p i + scale * held_of τ t p i) τ.rows row_over,
        sum_add (λ i. x * rise_of τ p i + lead_of τ p i) (λ i. scale * held_of τ t p i) τ.rows,
        sum_add (λ i. x * rise_of τ p i) (lead_of τ p) τ.rows,
        sum_mul scale (row_demand_lem τ x) τ.rows,
        sum_mul x (rise_of τ p) τ.rows,
        sum_mul scale (held_of τ t p) τ.rows,
      )

-- no tick above b, up to t, is exceeded
pub record Drop (τ : TaskSet) (t b : ℕ) : Type 0 where
  pub clear : (x : ℕ) → b < x → x ≤ t → demand τ x ≤ x

pub drop_none : (τ : TaskSet) (t : ℕ) → Drop τ t t
drop_none τ t = record { clear = λ x l h. absurd (omega arith) }

-- the last tick by which the others' work w and the lead e can exceed what the shares v leave; where these leave nothing, 0
-- if no tick up to t brings as much as a tick, and else t
unfoldable pub drop_by : ℕ → ℕ → ℕ → ℕ → ℕ
drop_by t v e w =
    cond (leb w 1000001)
    (cond (ltb v scale) ((e + scale * w - scale) / (scale - v)) (cond (ltb (e + scale * w + t * (v - scale)) scale) 0 t))
    t

pub drop_of : (τ : TaskSet) (t : ℕ) (p : ℕ → Bool) → Fit τ → Drop τ t (drop_by t (rises τ p) (leads τ p) (held τ t p))
unfolding drop_by
drop_of τ t p fit =
    both (leb w 1000001)
    (λ f. both (ltb v scale) (λ g. simp (f, g) (part (ltb-true v scale g)))
    (λ g. both (ltb (e + scale * w + t * (v - scale)) scale)
    (λ o. simp (f, g, o) (little (ltb-false v scale g) (ltb-true _ _ o)))
    (λ o. simp (f, g, o) (drop_none τ t))))
    (λ f. simp f (drop_none τ t))
  where
    v : ℕ
    v = rises τ p

    e : ℕ
    e = leads τ p

    w : ℕ
    w = held τ t p

    -- an exceeded x needs scale * (x + 1) ≤ x * v + e + scale * w
    part : v < scale → Drop τ t ((e + scale * w - scale) / (scale - v))
    part room =
        let d = scale - v in
        let m = e + scale * w - scale in
        let b = m / d in
        let whole : d + v ≡ scale = omega arith in
        let top : m < b * d + d = lt-div-mul-add {a = m} {b = d} (omega arith) in
        record {
          clear = λ x l h. dite (dec_le (demand τ x) x) (λ q. q)
              (λ q. absurd
              (omega (
                arith,
                top,
                demand_over τ fit t p x h,
                ap (λ (z : ℕ). x * z) whole,
                mul-le-mul_right {m = suc b} {n = x} d (omega arith),
              )));
        }

    little : scale ≤ v → e + scale * w + t * (v - scale) < scale → Drop τ t 0
    little full few =
        let d = v - scale in
        let whole : d + scale ≡ v = omega arith in
        record {
          clear = λ x l h. dite (dec_le (demand τ x) x) (λ q. q)
              (λ q. absurd
              (omega (
                arith,
                few,
                demand_over τ fit t p x h,
                ap (λ (z : ℕ). x * z) whole,
                mul-le-mul_right {m = x} {n = t} d h,
              )));
        }

-- ---- the code

pub record LightHolding (h : Holding) : Type 0 where
  pub rises : h.rises ≤ 64424526000
  pub leads : h.leads ≤ 75000000000000000
  pub held : h.held ≤ 15000000000000

-- h with the row k, at t
unfoldable pub holding_by : Holding → Prepared → ℕ → ℕ → Holding
holding_by h k t b =
    cond (ltb (b + (k.period - k.deadline)) (k.period * jobs_by_lem k.deadline k.period t))
    (record {
      rises = h.rises + rise_by k.run k.period;
      leads = h.leads + rise_by k.run k.period * (k.period - k.deadline);
      held = h.held;
    })
    (record { rises = h.rises; leads = h.leads; held = h.held + k.run * jobs_by_lem k.deadline k.period t })

module _ (k : Prepared) (u : Tame k) where
  -- C is at most T, and the inverse is rounded up by 1 at most
  rise_product : k.run * k.inverse ≤ 4398047511104
  rise_product =
      rw u.inverse
      (omega (
        arith,
        mul-le-mul_right {m = k.run} {n = k.period} (inverse_of_lem k.period - 1) (omega arith),
        inverse_under k.period,
        ap (λ (z : ℕ). k.run * z) (inverse_more k.period),
      ))

  pub rise_scaled : Fits w64 (k.run * k.inverse)
  rise_scaled = record { fits = omega (arith, rise_product) }

  rise_small : k.run * k.inverse / 1024 + 1 ≤ 4294968400
  rise_small = omega (arith, rise_product, div-mul-le_self (k.run * k.inverse) 1024)

  pub rise_fits : Fits w64 (k.run * k.inverse / 1024 + 1)
  rise_fits = record { fits = omega (arith, rise_small) }

  pub rise_is : Within 4294968400 (rise_by k.run k.period) (k.run * k.inverse / 1024 + 1)
  unfolding rise_by
  rise_is = record { is = rw u.inverse; small = rise_small }

  module _ (v : ℕ) (h : v ≤ 4294968400) where
    lead_small : v * (k.period - k.deadline) ≤ 5000000000000000
    lead_small =
        omega (arith, mul-le-mul {n₁ = v} {m₁ = k.period - k.deadline} {n₂ = 4294968400} {m₂ = 1000000} h (omega arith))

    pub lead_fits : Fits w64 (v * (k.period - k.deadline))
    lead_fits = record { fits = omega (arith, lead_small) }

    pub lead_is : Within 5000000000000000 (v * (k.period - k.deadline)) (v * (k.period - k.deadline))
    lead_is = record { is = refl; small = lead_small }

  module _ (t q : ℕ) (w : Within 1000000 (jobs_by_lem k.deadline k.period t) q) where
    pub due_is : (b : ℕ) → ltb (b + (k.period - k.deadline)) (k.period * q) ≡ ltb (b + (k.period - k.deadline)) (k.period * jobs_by_lem k.deadline k.period t)
    due_is b = rw w.is

pub ruleset rise_cases = (rise_scaled, rise_fits, rise_is, lead_fits, lead_is, jobs_fits, due_is)

module _ (h : Holding) (k : Prepared) (t b x : ℕ) (o : Bool) (e : o ≡ ltb (b + (k.period - k.deadline)) (k.period * jobs_by_lem k.deadline k.period t)) where
  pub holding_on : (y : ℕ) → o ≡ true → Within 4294968400 (rise_by k.run k.period) x → Within 5000000000000000 (x * (k.period - k.deadline)) y
      → record { rises = h.rises + x; leads = h.leads + y; held = h.held } ≡ holding_by h k t b
  unfolding holding_by
  holding_on y p w z = rw (z.is, w.is) (sym (simp (sym e ∙ p)))

  pub holding_off : o ≡ false → Within 1000000000000 (k.run * jobs_by_lem k.deadline k.period t) x
      → record { rises = h.rises; leads = h.leads; held = h.held + x } ≡ holding_by h k t b
  unfolding holding_by
  holding_off p w = rw w.is (sym (simp (sym e ∙ p)))

pub ruleset holding_cases = (holding_on, holding_off)

-- ---- the loop over the rows

-- h has the first i rows
pub record Held (τ : TaskSet) (t b i : ℕ) (h : Holding) : Type 0 where
  pub rises : h.rises ≡ sum_to (rise_of τ (due_of τ t b)) i
  pub few : h.rises ≤ 4294968400 * i
  pub leads : h.leads ≡ sum_to (lead_of τ (due_of τ t b)) i
  pub short : h.leads ≤ 5000000000000000 * i
  pub held : h.held ≡ sum_to (held_of τ t (due_of τ t b)) i
  pub little : h.held ≤ 1000000000000 * i

pub held_start : (τ : TaskSet) (t b : ℕ) → Held τ t b 0 (record { rises = 0; leads = 0; held = 0 })
held_start τ t b = record {
  rises = sum_start (rise_of τ (due_of τ t b));
  few = omega arith;
  leads = sum_start (lead_of τ (due_of τ t b));
  short = omega arith;
  held = sum_start (held_of τ t (due_of τ t b));
  little = omega arith;
}

pub held_light : (τ : TaskSet) (t b i : ℕ) (h : Holding) → Fit τ → i < τ.rows → Held τ t b i h → LightHolding h
held_light τ t b i h fit l g =
    let few = fit.few in
    record { rises = omega (arith, g.few); leads = omega (arith, g.short); held = omega (arith, g.little) }

module _ (τ : TaskSet) (t b i : ℕ) (h x : Holding) (k : Prepared) (high : t ≤ 1000000) (g : Held τ t b i h) (y : Ready τ i k) where
  rise_few : rise_by (τ.C i) (τ.T i) ≤ 4294968400
  rise_few = let w = y.row in let s = rise_is k (tame_of τ i k y) in rw (sym w.run, sym w.period) (omega (arith, s.is, s.small))

  pub held_next : x ≡ holding_by h k t b → Held τ t b (i + 1) x
  unfolding holding_by rise_of lead_of held_of due_of
  held_next e =
      let w = y.row in
      let u = tame_of τ i k y in
      let o = y.rule in
      let v = rise_by (τ.C i) (τ.T i) in
      let p = due_of τ t b in
      both (ltb (b + (τ.T i - τ.D i)) (τ.T i * jobs_by_lem (τ.D i) (τ.T i) t))
      (λ q.
      let z : x ≡ record { rises = h.rises + v; leads = h.leads + v * (τ.T i - τ.D i); held = h.held } =
      e ∙ rw (w.run, w.period, w.deadline) (simp q) in
      rw z
      record {
        rises = sum_next (rise_of τ p) i h.rises v g.rises (sym (gate_on _ _ q));
        few = omega (arith, g.few, rise_few);
        leads = sum_next (lead_of τ p) i h.leads (v * (τ.T i - τ.D i)) g.leads (rw (gate_on (p i) v q));
        short = omega (arith, g.short, lead_few);
        held = omega (arith, sum_next (held_of τ t p) i h.held 0 g.held (sym (gate_off _ _ (ap not q))));
        little = omega (arith, g.little);
      })
      (λ q.
      let z : x ≡ record { rises = h.rises; leads = h.leads; held = h.held + row_demand_lem τ t i } =
      e ∙ rw (w.run, w.period, w.deadline) (simp q) in
      rw z
      record {
        rises = omega (arith, sum_next (rise_of τ p) i h.rises 0 g.rises (sym (gate_off _ _ q)));
        few = omega (arith, g.few);
        leads = omega (arith, sum_next (lead_of τ p) i h.leads 0 g.leads (rw (gate_off (p i) v q) (omega arith)));
        short = omega (arith, g.short);
        held = sum_next (held_of τ t p) i h.held (row_demand_lem τ t i) g.held (sym (gate_on _ _ (ap not q)));
        little = omega (arith, g.little, owed_few);
      })
    where
      lead_few : rise_by (τ.C i) (τ.T i) * (τ.T i - τ.D i) ≤ 5000000000000000
      lead_few =
          let o = y.rule in
          omega (arith, mul-le-mul {n₁ = rise_by (τ.C i) (τ.T i)} {m₁ = τ.T i - τ.D i} {n₂ = 4294968400} {m₂ = 1000000} rise_few (omega arith))

      owed_few : row_demand_lem τ t i ≤ 1000000000000
      owed_few =
          let o = y.rule in
          product_small (τ.C i) (jobs_by_lem (τ.D i) (τ.T i) t) (omega arith) (jobs_small (τ.D i) (τ.T i) t (omega arith) (omega arith) high)

pub held_done : (τ : TaskSet) (t b i n : ℕ) (h : Holding) → Held τ t b i h → i ≤ n → n ≤ i → n ≡ τ.rows → Held τ t b τ.rows h
held_done τ t b i n h g l m k = let j : i ≡ τ.rows = omega arith in rw j at g

pub ruleset held_laws = (held_start, held_light, held_next, held_done, tame_of)

module _ (t v e w : ℕ) where
  pub drop_much : 1000001 < w → t ≡ drop_by t v e w
  unfolding drop_by
  drop_much l = simp (lt-leb w 1000001 l)

  module _ (l : w ≤ 1000001) where
    pub drop_part : (m : ℕ) → v < scale → m ≡ e + scale * w - scale → m / (scale - v) ≡ drop_by t v e w
    unfolding drop_by
    drop_part m h q = rw q (sym (simp (le-leb w 1000001 l, lt-ltb v scale h)))

    module _ (h : scale ≤ v) where
      module _ (x : ℕ) (s : Within 64424527104000000 (t * (v - scale)) x) where
        pub drop_little : e + scale * w + x < scale → 0 ≡ drop_by t v e w
        unfolding drop_by
        drop_little o =
            simp (le-leb w 1000001 l, le-ltb v scale h, lt-ltb (e + scale * w + t * (v - scale)) scale (omega (arith, s.is)))

        pub drop_full : scale ≤ e + scale * w + x → t ≡ drop_by t v e w
        unfolding drop_by
        drop_full o =
            simp (le-leb w 1000001 l, le-ltb v scale h, le-ltb (e + scale * w + t * (v - scale)) scale (omega (arith, s.is)))

pub ruleset drop_cases = (drop_much, drop_part, drop_little, drop_full)

-- t ticks of what the shares are above 1
module _ (t v : ℕ) (h : t ≤ 1000000) (l : v ≤ 68719494400) where
  surplus_small : t * (v - scale) ≤ 64424527104000000
  surplus_small = mul-le-mul {n₁ = t} {m₁ = v - scale} {n₂ = 1000000} {m₂ = 64424527104} h (omega arith)

  pub surplus_fits : Fits w64 (t * (v - scale))
  surplus_fits = record { fits = omega (arith, surplus_small) }

  pub surplus_is : Within 64424527104000000 (t * (v - scale)) (t * (v - scale))
  surplus_is = record { is = refl; small = surplus_small }

pub ruleset surplus_laws = (surplus_fits, surplus_is)

pub drop_at : (τ : TaskSet) (t b c : ℕ) (h : Holding) → Fit τ → Held τ t b τ.rows h → c ≡ drop_by t h.rises h.leads h.held → Drop τ t c
drop_at τ t b c h fit g q =
    let p = due_of τ t b in
    let same : c ≡ drop_by t (rises τ p) (leads τ p) (held τ t p) = q ∙ rw (g.rises, g.leads, g.held) in
    rw same (drop_of τ t p fit)

-- ---- where the search goes on below t, whose demand is h

pub record Lower (τ : TaskSet) (t h u : ℕ) : Type 0 where
  pub less : u ≤ h - 1
  pub clear : (x : ℕ) → u < x → x < h → demand τ x ≤ x

pub lower_next : (τ : TaskSet) (t h u : ℕ) → u ≡ h - 1 → Lower τ t h u
lower_next τ t h u e = record { less = omega arith; clear = λ x l m. absurd (omega arith) }

pub lower_drop : (τ : TaskSet) (t h a b : ℕ) → h ≤ t → Lower τ t h a → Drop τ t b → b < a → Lower τ t h b
lower_drop τ t h a b k g d m =
    record { less = omega (arith, g.less); clear = λ x l o. d.clear x l (omega arith) }

-- the sieve went r ticks back
pub lower_sift : (τ : TaskSet) (t h r : ℕ) → Fit τ → 256 ≤ t → h ≤ t → Within 16000000000000 (demand τ t) h → Sieved τ t true (t - h) r → Lower τ t h (t - r)
lower_sift τ t h r fit m k w g = record {
  less = omega (arith, g.few, g.past);
  clear = λ x l o.
      let y = t - x in
      let e : t - y ≡ x = omega arith in
      omega (arith, w.is, g.clear y (omega (arith, g.few)), ap (demand τ) e, given_back τ fit t y (omega arith));
}

pub lower_high : (τ : TaskSet) (t h a : ℕ) → h ≤ t → t ≤ 1000000 → Lower τ t h a → a ≤ 1000000
lower_high τ t h a k m g = omega (arith, g.less)

pub ruleset lower_laws = (lower_next, lower_drop, lower_sift, lower_high)
