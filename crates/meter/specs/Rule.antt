-- The rule of the meter's input, as facts. Assumes nothing.
use Rattle.std.specs.Prelude.{ℕ, ◌*◌, ◌≤◌, ◌<◌, ◌≡◌, Bool, true, false, List, leb, eqb, length, Ok, Err}
use Rattle.std.proofs.Math.Path.{sym}
use Rattle.std.proofs.Common.{◌∙◌, mul-le-mul_right, arith}
use borrow.Author.Tests.{le-leb, leb-true, eqb-true}
use Rattle.bounded.specs.Tests.{both, and-true}
use Rattle.meter.specs.declared.Shape.{Shape}
use Rattle.meter.specs.Meter.{meter_of, fits, bad_shape, measure_of}

pub record Shaped (a : List ℕ) (h : Shape) : Type 0 where
  pub some : 1 ≤ h.stretches
  pub few : h.stretches ≤ 255
  pub window : 1 ≤ h.window
  pub within : h.window ≤ h.ticks
  pub most : length a ≤ 16384
  pub long : length a ≡ h.stretches * h.ticks

module _ (a : List ℕ) (h : Shape) where
  fits_rule : fits a h ≡ true → Shaped a h
  unfolding fits
  fits_rule e =
      let p = and-true _ (eqb (length a) (h.stretches * h.ticks)) e in
      let q = and-true _ (leb (h.stretches * h.ticks) 16384) p.0 in
      let r = and-true _ (leb h.window h.ticks) q.0 in
      let s = and-true _ (leb 1 h.window) r.0 in
      let t = and-true (leb 1 h.stretches) (leb h.stretches 255) s.0 in
      let long = eqb-true (length a) (h.stretches * h.ticks) p.1 in
      record {
        some = leb-true 1 h.stretches t.0;
        few = leb-true h.stretches 255 t.1;
        window = leb-true 1 h.window s.1;
        within = leb-true h.window h.ticks r.1;
        most = omega (arith, leb-true (h.stretches * h.ticks) 16384 q.1);
        long = long;
      }

  -- a stretch has no more ticks than all together
  pub ticks_few : Shaped a h → h.ticks ≤ 16384
  ticks_few f = omega (arith, f.most, f.long, mul-le-mul_right {m = 1} {n = h.stretches} h.ticks f.some)

  -- what an answer says
  pub measured : (x : ℕ) → measure_of a h ≡ Ok x → Shaped a h × (x ≡ meter_of a h)
  unfolding measure_of
  measured x e =
      both (fits a h)
      (λ y. let z : Ok (meter_of a h) ≡ Ok x = simp y at e in (fits_rule y, cc))
      (λ n. let z : Err bad_shape ≡ Ok x = simp n at e in cc)

  -- ---- `is_fit`

  pub fit_not : (Shaped a h → ⊥) → false ≡ fits a h
  fit_not none = both (fits a h) (λ y. absurd (none (fits_rule y))) sym

  pub fit_large : 16384 < h.stretches * h.ticks → false ≡ fits a h
  fit_large e = fit_not (λ f. omega (arith, f.most, f.long))

  pub fit_length : (x : ℕ) → 1 ≤ h.stretches → h.stretches ≤ 255 → 1 ≤ h.window → h.window ≤ h.ticks → x ≡ h.stretches * h.ticks → x ≤ 16384
      → eqb (length a) x ≡ fits a h
  unfolding fits
  fit_length x some few window within q most =
      simp (
        le-leb 1 h.stretches some,
        le-leb h.stretches 255 few,
        le-leb 1 h.window window,
        le-leb h.window h.ticks within,
        le-leb (h.stretches * h.ticks) 16384 (omega arith),
        q,
      )

  -- ---- `measure`

  module _ (b : Bool) (is : b ≡ fits a h) where
    pub measure_may : b ≡ true → Shaped a h
    measure_may y = fits_rule (sym is ∙ y)

    pub measure_is : (r : ℕ) → b ≡ true → r ≡ meter_of a h → Ok r ≡ measure_of a h
    unfolding measure_of
    measure_is r y e = simp (sym is ∙ y, e)

    pub measure_not : b ≡ false → Err bad_shape ≡ measure_of a h
    unfolding measure_of
    measure_not n = simp (sym is ∙ n)

pub ruleset fit_laws = (fit_large, fit_length)

pub ruleset measure_laws = (measure_may, measure_is, measure_not)
