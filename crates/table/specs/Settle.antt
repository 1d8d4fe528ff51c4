-- Whether there is a busy length up to 1,000,000, by a stretch that is no shorter than its request (docs/SPECIFICATION.md
-- §2.4), and what is then enough to compare. Assumes nothing.
use Rattle.std.specs.Prelude.{ℕ, ◌+◌, ◌-◌, ◌/◌, ◌≤◌, ◌<◌, ◌≡◌, false, Option, Some, None}
use Rattle.std.proofs.Math.Bool.{true}
use Rattle.std.proofs.Math.Logic.{dite}
use Rattle.std.proofs.Common.{⊎_elim, arith, div-le_self, le-div_iff_mul-le}
use Rattle.std.proofs.Math.Decide.{dec_le}
use borrow.Author.Tests.{le-leb, leb-true}
use Rattle.bounded.specs.Tests.{both}
use Rattle.bounded.specs.Fixed.{fixed_low, fixed_at, fixed_under}
use Rattle.edf.specs.Demand.{TaskSet, demand, request, request_mono, request_pos}
use Rattle.table.specs.Rows.{horizon, Fit, fit_lawful}
use Rattle.bounded.specs.Within.{Within}
use Rattle.table.specs.Leap.{Leap, Further}
use Rattle.table.specs.Busy.{busy_length}
use Rattle.table.specs.Verdict.{compared_to, overloaded, settled}
use Rattle.table.specs.Opinion.{overloaded_none}
use Rattle.table.specs.Theorems.{settled_fits}

-- x is a stretch from a to e that is no shorter than its request; or there is none
pub data Climbed (τ : TaskSet) (a e : ℕ) : Option ℕ → Type 0 where
  found : {x : ℕ} → a ≤ x → x ≤ e → request τ x ≤ x → Climbed τ a e (Some x)
  none : ((q : ℕ) → a ≤ q → q ≤ e → request τ q ≤ q → ⊥) → Climbed τ a e None

-- the same up to 1,000,000
abbrev pub Settles : TaskSet → Option ℕ → Type 0
Settles τ x = Climbed τ 1 horizon x

-- ---- the loop that climbs: no such stretch from a on is below r

pub record Rising (τ : TaskSet) (a r n : ℕ) : Type 0 where
  pub low : a ≤ r
  pub counted : n ≤ r
  pub clear : (q : ℕ) → a ≤ q → request τ q ≤ q → r ≤ q

module _ (τ : TaskSet) (fit : Fit τ) (a : ℕ) where
  pub rising_start : Rising τ a a 0
  rising_start = record { low = omega arith; counted = omega arith; clear = λ q l h. l }

  module _ (e r n : ℕ) (g : Rising τ a r n) where
    pub rising_end : e < r → Climbed τ a e None
    rising_end l = none (λ q p h k. omega (arith, g.clear q p k))

    module _ (x : ℕ) (w : Within 16000000000000 (request τ r) x) where
      pub rising_found : r ≤ e → x ≤ r → Climbed τ a e (Some r)
      rising_found l h = found g.low l (omega (arith, w.is))

      pub rising_next : (y : ℕ) → r < x → Further τ r x y → Rising τ a y (n + 1)
      rising_next y h f = record {
        low = omega (arith, g.low, f.more);
        counted = omega (arith, g.counted, f.more);
        clear = λ q l k.
            let m = g.clear q l k in
            ⊎_elim (λ z. omega (arith, w.is, request_mono τ (fit_lawful τ fit) r q m)) (λ (b : Leap τ r y). b.under q m k) f.leap;
      }

      pub rising_more : (y : ℕ) → r < x → Further τ r x y → r < y
      rising_more y h f = omega (arith, f.more)

pub ruleset rising_laws = (rising_start, rising_end, rising_found, rising_next, rising_more)

-- ---- the loop over the stretches from the last on: there is none past e, nor up to 100,000

pub record NonePast (τ : TaskSet) (e : ℕ) : Type 0 where
  pub high : e ≤ horizon
  pub near : (q : ℕ) → 1 ≤ q → q ≤ 100000 → request τ q ≤ q → ⊥
  pub far : (q : ℕ) → e < q → q ≤ horizon → request τ q ≤ q → ⊥

module _ (τ : TaskSet) where
  pub past_found : (e x : ℕ) → e ≤ horizon → Climbed τ 1 e (Some x) → Settles τ (Some x)
  past_found e x h (found a b k) = found a (omega arith) k

  pub past_start : Climbed τ 1 100000 None → NonePast τ 1000000
  past_start (none k) = record { high = omega arith; near = k; far = λ q a b. absurd (omega arith) }

  module _ (e : ℕ) (p : NonePast τ e) where
    pub past_at : (x : ℕ) → 100000 < e → Climbed τ (e - 49999) e (Some x) → Settles τ (Some x)
    past_at x o (found a b k) = found (omega arith) (omega (arith, p.high)) k

    pub past_low : (x : ℕ) → 100000 < e → Climbed τ (e - 49999) e (Some x) → (9 ≤ x) × (x ≤ 1000000)
    past_low x o (found a b k) = (omega arith, omega (arith, p.high))

    pub past_next : 100000 < e → Climbed τ (e - 49999) e None → NonePast τ (e - 50000)
    past_next o (none k) = record {
      high = omega (arith, p.high);
      near = p.near;
      far = λ q a b. dite (dec_le q e) (λ m. k q (omega arith) m) (λ m. p.far q (omega arith) b);
    }

    pub past_end : e ≤ 100000 → Settles τ None
    past_end l = none (λ q a b. dite (dec_le q 100000) (λ m. p.near q a m) (λ m. p.far q (omega arith) b))

pub ruleset past_laws = (past_found, past_start, past_at, past_low, past_next, past_end)

-- ---- a part of such a stretch

module _ (τ : TaskSet) (r m : ℕ) (high : r ≤ horizon) where
  pub part_high : r / m ≤ horizon
  part_high = omega (arith, div-le_self r m)

  pub part_found : (x : ℕ) → 9 ≤ r → 1 < m → m ≤ 9 → Within 16000000000000 (request τ (r / m)) x → x ≤ r / m → Settles τ (Some (r / m))
  part_found x l o k w h =
      found
      ((le-div_iff_mul-le {k = m} {x = 1} {y = r} (omega arith)).1 (omega arith))
      part_high (omega (arith, w.is))

pub ruleset part_laws = (part_high, part_found)

-- ---- what it decides

module _ (τ : TaskSet) (fit : Fit τ) where
  pub unsettled_by : Settles τ None → settled τ ≡ false
  unfolding settled busy_length
  unsettled_by (none k) = both (settled τ) (λ s. absurd (no s)) (λ s. s)
    where
      no : settled τ ≡ true → ⊥
      no s =
          let h = leb-true (busy_length τ) horizon s in
          k (busy_length τ) (fixed_low (request τ) horizon) h (omega (arith, fixed_at (request τ) horizon h))

  module _ (x : ℕ) (low : 1 ≤ x) (high : x ≤ horizon) (enough : request τ x ≤ x) where
    busy_below : busy_length τ ≤ x
    unfolding busy_length
    busy_below =
        fixed_under (request τ) horizon (request_mono τ (fit_lawful τ fit)) (request_pos τ (fit_lawful τ fit) fit.some) x low enough

    pub settled_by : settled τ ≡ true
    unfolding settled
    settled_by = le-leb (busy_length τ) horizon (omega (arith, busy_below))

    -- a tick up to x is exceeded exactly if one of the compared range is
    pub fits_by : ((t : ℕ) → 1 ≤ t → t ≤ x → demand τ t ≤ t) → overloaded τ ≡ false
    unfolding compared_to
    fits_by clear = overloaded_none τ (λ t l h. clear t l (omega (arith, busy_below)))

    pub over_by : (t : ℕ) → t < demand τ t → overloaded τ ≡ true
    over_by t o = both (overloaded τ) (λ e. e) (λ e. absurd (omega (arith, o, settled_fits τ fit e settled_by t)))
