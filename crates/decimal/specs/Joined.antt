-- Texts one after another, one for each index, written by a loop. Assumes nothing.
use Rattle.std.specs.Prelude.{ℕ, zero, suc, ◌+◌, ◌*◌, ◌≤◌, ◌<◌, ◌≡◌, refl, List, [], ◌++◌}
use Rattle.std.proofs.Common.{◌∙◌, mul-le-mul_left}
use Rattle.std.proofs.Math.Numerals.{add-one}
use native.Mathlib.Omega.{arith}
use Rattle.std.proofs.Math.ListN.{length}
use Rattle.decimal.specs.Buffer.{Wrote, wrote_none, wrote_length, wrote_more}

-- the texts of 0, 1, .., n - 1
unfoldable pub join_to : (ℕ → List ℕ) → ℕ → List ℕ
join_to f zero = []
join_to f (suc n) = join_to f n ++ f n

-- of n texts, none longer than m, the first i are written from place `at` of the buffer on; p is the place past them
pub record Joined (f : ℕ → List ℕ) (m n : ℕ) (d : List ℕ) (at i : ℕ) (e : List ℕ) (p : ℕ) : Type 0 where
  pub room : at + m * n ≤ length d
  pub within : i ≤ n
  pub length : length e ≡ length d
  pub text : Wrote (m * i) (join_to f i) d e at p

module _ (f : ℕ → List ℕ) (m n : ℕ) (d : List ℕ) (at : ℕ) where
  pub joined_start : at + m * n ≤ length d → Joined f m n d at 0 d at
  unfolding join_to
  joined_start room = record { room = room; within = omega arith; length = refl; text = wrote_none (m * 0) d at }

  module _ (i : ℕ) (e : List ℕ) (p : ℕ) (x : Joined f m n d at i e p) where
    -- there is room for one more
    pub joined_room : i < n → p + m ≤ length e
    joined_room h =
        omega (arith, x.text.place, x.text.short, x.room, x.length, mul-le-mul_left {m = suc i} {n = n} m h)

    pub joined_next : (u g : List ℕ) (q : ℕ) → i < n → Wrote m u e g p q → u ≡ f i → Joined f m n d at (i + 1) g q
    unfolding join_to
    joined_next u g q h y same =
        let t = x.text in
        let more : m * i + m ≡ m * (i + 1) = omega arith in
        record {
          room = x.room;
          within = omega arith;
          length = wrote_length m u e g p q (omega (arith, joined_room h, y.short)) y ∙ x.length;
          text =
              rw (← more, add-one, ← same)
              (wrote_more (m * i) m (join_to f i) u d e g at p q (omega (arith, t.short, t.place, joined_room h, x.length)) t y);
        }

    pub joined_all : n ≤ i → Wrote (m * n) (join_to f n) d e at p
    joined_all h = let all : i ≡ n = omega (arith, x.within) in rw all at x.text

pub ruleset joined_laws = (joined_room, joined_next)
