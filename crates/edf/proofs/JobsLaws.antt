-- More laws of specs/Jobs.antt: they rest on what a must-fail edit makes false. Assumes nothing.
use Rattle.std.specs.Prelude.{ℕ, zero, suc, ◌+◌, ◌-◌, ◌*◌, ◌≤◌, ◌<◌, ◌≡◌, refl}
use Rattle.std.proofs.Math.Logic.{dite}
use Rattle.std.proofs.Common.{div-lt_iff_lt-mul, mul-le-mul_left, arith}
use Rattle.std.proofs.Math.Nat.{lt-div-mul-add, div-eq_of_lt, add-div_right}
use Rattle.std.proofs.Math.Decide.{dec_le, dec_lt}
use Rattle.bounded.specs.Quotient.{ceil_div, ceil_after}
use Rattle.edf.specs.Jobs.{jobs_by_lem, jobs_none, jobs_some}

-- it is the least m with t < m * T + D
pub jobs_after : (D T t : ℕ) → 1 ≤ T → t < jobs_by_lem D T t * T + D
jobs_after D T t h =
    dite (dec_le D t)
    (λ l. rw (jobs_some D T t l) (omega (arith, lt-div-mul-add {a = t - D} {b = T} h)))
    (λ l. rw (jobs_none D T t (omega arith)) (omega arith))

pub jobs_least : (D T t m : ℕ) → 1 ≤ T → t < m * T + D → jobs_by_lem D T t ≤ m
jobs_least D T t m h l =
    dite (dec_le D t)
    (λ p. rw (jobs_some D T t p) (omega (arith, (div-lt_iff_lt-mul {k = T} {x = t - D} {y = m} h).1 (omega arith))))
    (λ p. rw (jobs_none D T t (omega arith)) (omega arith))

-- so the m-th of them, from 0, is due by t
pub jobs_last : (D T t m : ℕ) → 1 ≤ T → m < jobs_by_lem D T t → m * T + D ≤ t
jobs_last D T t m h l =
    dite (dec_lt t (m * T + D)) (λ p. absurd (omega (arith, jobs_least D T t m h p))) (λ p. omega arith)

pub jobs_few : (D T t : ℕ) → 1 ≤ T → jobs_by_lem D T t ≤ suc t
jobs_few D T t h = jobs_least D T t (suc t) h (omega (arith, mul-le-mul_left {m = 1} {n = T} (suc t) h))

pub jobs_mono : (D T t s : ℕ) → 1 ≤ T → t ≤ s → jobs_by_lem D T t ≤ jobs_by_lem D T s
jobs_mono D T t s h l = jobs_least D T t (jobs_by_lem D T s) h (omega (arith, jobs_after D T s h))

-- where one more is due than a tick before, it is due at that tick
pub jobs_rise : (D T t : ℕ) → 1 ≤ T → jobs_by_lem D T t < jobs_by_lem D T (suc t) → suc t ≡ jobs_by_lem D T t * T + D
jobs_rise D T t h l = omega (arith, jobs_after D T t h, jobs_last D T (suc t) (jobs_by_lem D T t) h l)

-- the first of them taken off
pub jobs_first : (D T t : ℕ) → 1 ≤ D → D ≤ T → D ≤ t → jobs_by_lem D T t ≡ suc (jobs_by_lem D T (t - T))
jobs_first D T t d h l =
    dite (dec_le (T + D) t)
    (λ p.
    let e : t - D ≡ t - T - D + T = omega arith in
    rw (jobs_some D T t l, jobs_some D T (t - T) (omega arith), e)
    (omega (arith, add-div_right (t - T - D) {k = T} (omega arith))))
    (λ p.
    rw (jobs_some D T t l, jobs_none D T (t - T) (omega arith))
    (omega (arith, div-eq_of_lt {n = t - D} {m = T} (omega arith))))

pub jobs_one : (D T : ℕ) → 1 ≤ D → D ≤ T → jobs_by_lem D T D ≡ 1
jobs_one D T d h = omega (arith, jobs_first D T D d h (omega arith), jobs_none D T (D - T) (omega arith))

pub jobs_room : (D T t : ℕ) → 1 ≤ T → D ≤ T → jobs_by_lem D T t * T + D ≤ t + T
jobs_room D T t p h = go (jobs_by_lem D T t) refl
  where
    go : (m : ℕ) → jobs_by_lem D T t ≡ m → m * T + D ≤ t + T
    go zero e = omega arith
    go (suc m) e = omega (arith, jobs_last D T t m p (omega arith))

-- those due by t are no more than arrive in a first stretch L, and those due by t - L
pub jobs_split : (D T L t : ℕ) → 1 ≤ T → L ≤ t → jobs_by_lem D T t ≤ ceil_div L T + jobs_by_lem D T (t - L)
jobs_split D T L t h l =
    jobs_least D T t (ceil_div L T + jobs_by_lem D T (t - L)) h
    (omega (arith, ceil_after L T h, jobs_after D T (t - L) h))

-- those due by t are no more than arrive in a stretch of t
pub jobs_ceil : (D T t : ℕ) → 1 ≤ D → 1 ≤ T → jobs_by_lem D T t ≤ ceil_div t T
jobs_ceil D T t d h = jobs_least D T t (ceil_div t T) h (omega (arith, ceil_after t T h))
