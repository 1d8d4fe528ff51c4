-- A lower bound on every busy length, from the rows' utilisation: the iteration may go on from it (docs/SPECIFICATION.md §2.4).
-- Rows that ask again soon are counted by their share of time, C / T, and the others by what they ask for so far. Assumes
-- nothing.
use Rattle.std.specs.Prelude.{ℕ, suc, ◌+◌, ◌-◌, ◌*◌, ◌/◌, ◌≤◌, ◌<◌, min, ◌≡◌, refl, Bool, true, false, cond, ◌⊎◌, leb, ltb, eqb}
use Rattle.std.proofs.Math.Path.{sym}
use Rattle.std.proofs.Common.{ap, ◌∙◌, inl, inr, ⊎_elim, Fits}
use Rattle.std.proofs.Math.Bool.{not}
use Rattle.std.proofs.Math.Logic.{dite}
use native.Mathlib.Omega.{arith}
use Rattle.std.proofs.Math.Nat.{mul-le-mul_left, mul-le-mul_right, div-mul-le_self}
use Rattle.std.proofs.Math.Decide.{dec_le}
use Rattle.std.specs.Int.{w64}
use borrow.Author.Tests.{eq-eqb, ne_eqb, le-leb, lt-leb, lt-ltb, le-ltb, eqb-false, leb-true, leb-false, ltb-true}
use Rattle.bounded.specs.Tests.{both, gate, gate_on, gate_off}
use Rattle.bounded.specs.Sum.{sum_to, sum_le, sum_add, sum_mul, sum_start, sum_next}
use Rattle.bounded.specs.Quotient.{ceil_div, ceil_after}
use Rattle.bounded.proofs.QuotientLaws.{ceil_mono}
use Rattle.edf.specs.Demand.{TaskSet, row_request_lem, request, request_mono}
use Rattle.table.specs.declared.inverse.Prepared.{Prepared}
use Rattle.table.specs.declared.leap.Filling.{Filling}
use Rattle.table.specs.Rows.{horizon, Fit, fit_lawful}
use Rattle.bounded.specs.Within.{Within}
use Rattle.table.specs.Request.{periods_fits, ask_is}
use Rattle.table.specs.Sieve.{Sieved, given_forth}
use Rattle.table.specs.Inverse.{whole, inverse_of_lem, inverse_under, inverse_some, Ready, Tame, tame_of}

-- shares of time are counted in parts of 2 ^ 32
abbrev pub scale : ℕ
scale = 4294967296

-- row i asks for more between the stretch r and the stretch b: the periods that it has begun end below b
unfoldable pub recurs_of : TaskSet → ℕ → ℕ → ℕ → Bool
recurs_of τ r b i = ltb (τ.T i * ceil_div r (τ.T i)) b

-- a row's share of time, rounded down
unfoldable pub share_by : ℕ → ℕ → ℕ
share_by C T = C * (inverse_of_lem T - 1) / 1024

-- the share of time of a row of p; and what a row that is not of p asks for in a stretch r
unfoldable pub share_of : TaskSet → (ℕ → Bool) → ℕ → ℕ
share_of τ p i = gate (p i) (share_by (τ.C i) (τ.T i))

unfoldable pub asked_of : TaskSet → ℕ → (ℕ → Bool) → ℕ → ℕ
asked_of τ r p i = gate (not (p i)) (row_request_lem τ r i)

abbrev pub shares : TaskSet → (ℕ → Bool) → ℕ
shares τ p = sum_to (share_of τ p) τ.rows

abbrev pub asked : TaskSet → ℕ → (ℕ → Bool) → ℕ
asked τ r p = sum_to (asked_of τ r p) τ.rows

-- a share is no more than C / T
share_low : (C T : ℕ) → share_by C T * T ≤ scale * C
unfolding share_by
share_low C T =
    omega (
      arith,
      mul-le-mul_right T (div-mul-le_self (C * (inverse_of_lem T - 1)) 1024),
      mul-le-mul_left C (inverse_under T),
    )

-- whatever rows are counted by their share
module _ (τ : TaskSet) (fit : Fit τ) (r : ℕ) (p : ℕ → Bool) (x : ℕ) (h : r ≤ x) where
  -- in a stretch x from r on, a row asks for its share at least, and for what it asked for so far
  row_under : (i : ℕ) → i < τ.rows → x * share_of τ p i + scale * asked_of τ r p i ≤ scale * row_request_lem τ x i
  unfolding share_of asked_of
  row_under i l =
      let u = fit.row i l in
      let v = share_by (τ.C i) (τ.T i) in
      both (p i)
      (λ e. rw (gate_on (p i) v e, gate_off (not (p i)) (row_request_lem τ r i) (ap not e))
      (omega (
        arith,
        mul-le-mul_right {m = x} {n = ceil_div x (τ.T i) * τ.T i} v (ceil_after x (τ.T i) (omega arith)),
        mul-le-mul_left (ceil_div x (τ.T i)) (share_low (τ.C i) (τ.T i)),
      )))
      (λ e. rw (gate_off (p i) v e, gate_on (not (p i)) (row_request_lem τ r i) (ap not e))
      (omega (arith, mul-le-mul_left (scale * τ.C i) (ceil_mono r x (τ.T i) (omega arith) h))))

  pub request_under : x * shares τ p + scale * asked τ r p ≤ scale * request τ x
  unfolding request
  request_under =
      omega (
        arith,
        sum_le (λ i. x * share_of τ p i + scale * asked_of τ r p i) (λ i. scale * row_request_lem τ x i) τ.rows row_under,
        sum_add (λ i. x * share_of τ p i) (λ i. scale * asked_of τ r p i) τ.rows,
        sum_mul x (share_of τ p) τ.rows,
        sum_mul scale (asked_of τ r p) τ.rows,
        sum_mul scale (row_request_lem τ x) τ.rows,
      )

-- the stretch that the others' work w fills, where the shares u leave room for it: 0 where there is no such work, and past
-- the horizon where the shares leave no room
unfoldable pub leap_by : ℕ → ℕ → ℕ
leap_by u w = cond (ltb scale u) 1000001 (cond (eqb w 0) 0 (cond (leb scale u) 1000001 (scale * min w 1000001 / (scale - u))))

-- b is at most every stretch from r on that is no less than its own request, and a stretch that is no more than its own
-- request
pub record Leap (τ : TaskSet) (r b : ℕ) : Type 0 where
  pub under : (q : ℕ) → r ≤ q → request τ q ≤ q → b ≤ q
  pub up : r ≤ b → b ≤ horizon → b ≤ request τ b

pub leap_none : (τ : TaskSet) (r : ℕ) → Leap τ r 0
leap_none τ r = record { under = λ q l e. omega arith; up = λ l m. omega arith }

pub leap_of : (τ : TaskSet) (r : ℕ) (p : ℕ → Bool) → Fit τ → 1 ≤ r → Leap τ r (leap_by (shares τ p) (asked τ r p))
unfolding leap_by
leap_of τ r p fit low =
    both (ltb scale (shares τ p)) (λ d. simp d (full (inl (ltb-true _ _ d))))
    (λ d. both (eqb (asked τ r p) 0) (λ e. simp (d, e) (leap_none τ r))
    (λ e. both (leb scale (shares τ p)) (λ f. simp (d, e, f) (full (inr (leb-true _ _ f, eqb-false _ _ e))))
    (λ f. simp (d, e, f) (part (leb-false _ _ f)))))
  where
    full : (scale < shares τ p) ⊎ ((scale ≤ shares τ p) × (asked τ r p ≡ 0 → ⊥)) → Leap τ r 1000001
    full over = record {
      under = λ q l e. absurd
          (⊎_elim
          (λ (o : scale < shares τ p). omega (
            arith,
            request_under τ fit r p q l,
            mul-le-mul_left {m = suc scale} {n = shares τ p} q o,
            mul-le-mul_left scale e,
          ))
          (λ (o : (scale ≤ shares τ p) × (asked τ r p ≡ 0 → ⊥)).
          let some = o.1 in
          omega (arith, request_under τ fit r p q l, mul-le-mul_left q o.0, mul-le-mul_left scale e)) over);
      up = λ l m. absurd (omega arith);
    }

    part : shares τ p < scale → Leap τ r (scale * min (asked τ r p) 1000001 / (scale - shares τ p))
    part room =
        let d = scale - shares τ p in
        let b = scale * min (asked τ r p) 1000001 / d in
        let whole : d + shares τ p ≡ scale = omega arith in
        let low : b * d ≤ scale * min (asked τ r p) 1000001 = div-mul-le_self (scale * min (asked τ r p) 1000001) d in
        record {
          under = λ q l e. dite (dec_le b q) (λ m. m)
              (λ m. absurd
              (omega (
                arith,
                low,
                request_under τ fit r p q l,
                mul-le-mul_left scale e,
                ap (λ (x : ℕ). q * x) whole,
                mul-le-mul_right {m = suc q} {n = b} d (omega arith),
              )));
          up = λ l m. omega (arith, low, request_under τ fit r p b l, ap (λ (x : ℕ). b * x) whole);
        }

-- ---- the code

pub record LightFilling (f : Filling) : Type 0 where
  pub shares : f.shares ≤ 15000000000000
  pub asked : f.asked ≤ 15000000000000

-- f with the row k, in the stretch r
unfoldable pub filling_by : Filling → Prepared → ℕ → ℕ → Filling
filling_by f k r b =
    cond (ltb (k.period * ceil_div r k.period) b)
    (record { shares = f.shares + share_by k.run k.period; asked = f.asked })
    (record { shares = f.shares; asked = f.asked + k.run * ceil_div r k.period })

module _ (k : Prepared) (t : Tame k) where
  pub share_some : 1 ≤ k.inverse
  share_some = omega (arith, t.inverse, inverse_some k.period)

  share_product : k.run * (k.inverse - 1) ≤ whole
  share_product =
      rw t.inverse (omega (arith, mul-le-mul_right {m = k.run} {n = k.period} (inverse_of_lem k.period - 1) (omega arith), inverse_under k.period))

  pub share_fits : Fits w64 (k.run * (k.inverse - 1))
  share_fits = record { fits = omega (arith, share_product) }

  pub share_is : Within 1000000000000 (share_by k.run k.period) (k.run * (k.inverse - 1) / 1024)
  unfolding share_by
  share_is = record { is = rw t.inverse; small = omega (arith, share_product, div-mul-le_self (k.run * (k.inverse - 1)) 1024) }

  module _ (r q : ℕ) (h : r ≤ horizon) (e : q ≡ ceil_div r k.period) where
    pub recurs_is : (b : ℕ) → ltb (k.period * q) b ≡ ltb (k.period * ceil_div r k.period) b
    recurs_is b = rw e

pub ruleset share_cases = (share_some, share_fits, share_is, periods_fits, recurs_is)

module _ (f : Filling) (k : Prepared) (r b x : ℕ) (t : Bool) (e : t ≡ ltb (k.period * ceil_div r k.period) b) where
  pub filling_on : t ≡ true → Within 1000000000000 (share_by k.run k.period) x
      → record { shares = f.shares + x; asked = f.asked } ≡ filling_by f k r b
  unfolding filling_by
  filling_on y w = rw w.is (sym (simp (sym e ∙ y)))

  pub filling_off : t ≡ false → Within 1000000000000 (k.run * ceil_div r k.period) x
      → record { shares = f.shares; asked = f.asked + x } ≡ filling_by f k r b
  unfolding filling_by
  filling_off y w = rw w.is (sym (simp (sym e ∙ y)))

pub ruleset filling_cases = (filling_on, filling_off)

-- ---- the loop over the rows

-- f has the first i rows
pub record Filled (τ : TaskSet) (r b i : ℕ) (f : Filling) : Type 0 where
  pub shares : f.shares ≡ sum_to (share_of τ (recurs_of τ r b)) i
  pub few : f.shares ≤ 1000000000000 * i
  pub asked : f.asked ≡ sum_to (asked_of τ r (recurs_of τ r b)) i
  pub little : f.asked ≤ 1000000000000 * i

pub filled_start : (τ : TaskSet) (r b : ℕ) → Filled τ r b 0 (record { shares = 0; asked = 0 })
filled_start τ r b = record {
  shares = sum_start (share_of τ (recurs_of τ r b));
  few = omega arith;
  asked = sum_start (asked_of τ r (recurs_of τ r b));
  little = omega arith;
}

pub filled_light : (τ : TaskSet) (r b i : ℕ) (f : Filling) → Fit τ → i < τ.rows → Filled τ r b i f → LightFilling f
filled_light τ r b i f fit l g =
    let few = fit.few in
    record { shares = omega (arith, g.few); asked = omega (arith, g.little) }

module _ (τ : TaskSet) (r b i : ℕ) (f x : Filling) (k : Prepared) (high : r ≤ horizon) (g : Filled τ r b i f) (y : Ready τ i k) where
  pub filled_next : x ≡ filling_by f k r b → Filled τ r b (i + 1) x
  unfolding filling_by share_of asked_of recurs_of
  filled_next e =
      let w = y.row in
      let u = tame_of τ i k y in
      both (ltb (τ.T i * ceil_div r (τ.T i)) b)
      (λ t.
      let z : x ≡ record { shares = f.shares + share_by (τ.C i) (τ.T i); asked = f.asked } = e ∙ rw (w.run, w.period) (simp t) in
      rw z
      record {
        shares = sum_next (share_of τ (recurs_of τ r b)) i f.shares (share_by (τ.C i) (τ.T i)) g.shares (sym (gate_on _ _ t));
        few = omega (arith, g.few, few_of u);
        asked = omega (arith, sum_next (asked_of τ r (recurs_of τ r b)) i f.asked 0 g.asked (sym (gate_off _ _ (ap not t))));
        little = omega (arith, g.little);
      })
      (λ t.
      let z : x ≡ record { shares = f.shares; asked = f.asked + row_request_lem τ r i } = e ∙ rw (w.run, w.period) (simp t) in
      rw z
      record {
        shares = omega (arith, sum_next (share_of τ (recurs_of τ r b)) i f.shares 0 g.shares (sym (gate_off _ _ t)));
        few = omega (arith, g.few);
        asked = sum_next (asked_of τ r (recurs_of τ r b)) i f.asked (row_request_lem τ r i) g.asked (sym (gate_on _ _ (ap not t)));
        little = omega (arith, g.little, little_of u);
      })
    where
      few_of : Tame k → share_by (τ.C i) (τ.T i) ≤ 1000000000000
      few_of u = let w = y.row in let s = share_is k u in rw (sym w.run, sym w.period) (omega (arith, s.is, s.small))

      little_of : Tame k → row_request_lem τ r i ≤ 1000000000000
      little_of u =
          let w = y.row in
          let s = ask_is k u r (ceil_div r k.period) high refl in
          rw (sym w.run, sym w.period) s.small

pub filled_done : (τ : TaskSet) (r b i n : ℕ) (f : Filling) → Filled τ r b i f → i ≤ n → n ≤ i → n ≡ τ.rows → Filled τ r b τ.rows f
filled_done τ r b i n f g l h k = let j : i ≡ τ.rows = omega arith in rw j at g

pub ruleset filled_laws = (filled_start, filled_light, filled_next, filled_done, tame_of)

module _ (u w : ℕ) where
  pub leap_over : scale < u → 1000001 ≡ leap_by u w
  unfolding leap_by
  leap_over d = simp (lt-ltb scale u d)

  module _ (d : u ≤ scale) where
    pub leap_empty : w ≡ 0 → 0 ≡ leap_by u w
    unfolding leap_by
    leap_empty e = simp (le-ltb scale u d, eq-eqb w 0 e)

    pub leap_full : (w ≡ 0 → ⊥) → scale ≤ u → 1000001 ≡ leap_by u w
    unfolding leap_by
    leap_full ne h = simp (le-ltb scale u d, ne_eqb w 0 ne, le-leb scale u h)

    pub leap_part : (m : ℕ) → (w ≡ 0 → ⊥) → u < scale → m ≡ min w 1000001 → scale * m / (scale - u) ≡ leap_by u w
    unfolding leap_by
    leap_part m ne h e = rw e (sym (simp (le-ltb scale u d, ne_eqb w 0 ne, lt-leb scale u h)))

pub ruleset leap_cases = (leap_over, leap_empty, leap_full, leap_part)

pub leap_at_lem : (τ : TaskSet) (r b c : ℕ) (f : Filling) → Fit τ → 1 ≤ r → Filled τ r b τ.rows f → c ≡ leap_by f.shares f.asked → Leap τ r c
leap_at_lem τ r b c f fit low g e =
    let p = recurs_of τ r b in
    let same : c ≡ leap_by (shares τ p) (asked τ r p) = e ∙ rw (g.shares, g.asked) in
    rw same (leap_of τ r p fit low)

-- ---- where the iteration goes on

pub record Further (τ : TaskSet) (r n x : ℕ) : Type 0 where
  pub more : n ≤ x
  pub leap : (n ≡ x) ⊎ Leap τ r x

pub further_next : (τ : TaskSet) (r n : ℕ) → Further τ r n n
further_next τ r n = record { more = omega arith; leap = inl refl }

pub further_leap : (τ : TaskSet) (r n a b : ℕ) → Further τ r n a → Leap τ r b → a < b → Further τ r n b
further_leap τ r n a b g l m = record { more = omega (arith, g.more); leap = inr l }

-- the sieve went m ticks on
pub further_sift : (τ : TaskSet) (r n m : ℕ) → Fit τ → r < n → Within 16000000000000 (request τ r) n → Sieved τ r false (n - r - 1) m → Further τ r n (r + m)
further_sift τ r n m fit l w g = record {
  more = omega (arith, g.past);
  leap = inr (record {
    under = λ q h e. dite (dec_le (r + m) q) (λ o. o)
        (λ o. let k = q - r in
        let s : r + k ≡ q = omega arith in
        absurd (omega (arith, w.is, g.clear k (omega arith), ap (request τ) s, given_forth τ fit r k)));
    up = λ h b.
        let k = m - 1 in
        omega (
          arith,
          w.is,
          g.past,
          g.clear k (omega (arith, g.past)),
          given_forth τ fit r k,
          request_mono τ (fit_lawful τ fit) (r + k) (r + m) (omega arith),
        );
  });
}

pub ruleset further_laws = (further_next, further_leap, further_sift)
