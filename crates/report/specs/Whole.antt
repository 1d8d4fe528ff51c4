-- A program as one function from bytes to bytes (docs/SPECIFICATION.md §8.5, §8.6): of the input some bytes at most are read, and
-- what is printed of them is written to a lent buffer that is long enough for it. Assumes nothing.
use Rattle.std.specs.Prelude.{ℕ, ◌+◌, ◌*◌, ◌≤◌, ◌<◌, min, ◌≡◌, refl, List, length, take}
use Rattle.std.proofs.Common.{sym, ap, subst, ◌∙◌, arith, take_all, length-take-le}
use Rattle.std.proofs.Math.Logic.{dite}
use Rattle.std.proofs.Math.Decide.{dec_le}
use Rattle.decimal.specs.Buffer.{Wrote, overlay_length}

-- room for what is printed of an input of n bytes, of which `limit` at most are read: so many bytes for each of those, 1,478 for
-- an opinion and 86 for a line
unfoldable pub room_in : ℕ → ℕ → ℕ → ℕ
room_in each limit n = 1564 + each * min n limit

-- the same with `base` bytes that a text may have whatever its input
unfoldable pub room_from : ℕ → ℕ → ℕ → ℕ → ℕ
room_from base each limit n = base + each * min n limit

-- the text stands at the start of the buffer, with the rest as it was, and r is its length; a buffer shorter than the room is
-- left as it was, with 0 for an answer
pub data Filled (room : ℕ) (text before after : List ℕ) (r : ℕ) : Type 0 where
  too_short : length before < room → after ≡ before → r ≡ 0 → Filled room text before after r
  printed : room ≤ length before → Wrote room text before after 0 r → Filled room text before after r

-- ---- laws

pub filled_short : (room k : ℕ) (text before : List ℕ) → k ≡ room → length before < k → Filled room text before before 0
filled_short room k text before e h = too_short (omega arith) refl refl

-- for a caller who takes the text out of the buffer
pub filled_within : (room : ℕ) (text before after : List ℕ) (r : ℕ) → Filled room text before after r → r ≤ length after
filled_within room text before after r (too_short h e z) = omega arith
filled_within room text before after r (printed h p) =
    omega (arith, p.place, p.short, ap length p.buffer, overlay_length before 0 text (omega (arith, p.short)))

pub room_from_least : (base each limit n k : ℕ) → k ≡ min n limit → base + each * k ≡ room_from base each limit n
unfolding room_from
room_from_least base each limit n k e = rw e

pub room_of_least : (each limit n k : ℕ) → k ≡ min n limit → 1564 + each * k ≡ room_in each limit n
unfolding room_in
room_of_least each limit n k e = rw e

module _ (limit : ℕ) (input : List ℕ) (n : ℕ) (e : n ≡ min (length input) limit) where
  -- what is read of the input
  pub limit_is : take n input ≡ take limit input
  limit_is =
      dite (dec_le (length input) limit)
      (λ h. take_all n input (omega arith) ∙ sym (take_all limit input h))
      (λ h. let k : n ≡ limit = omega arith in ap (λ (m : ℕ). take m input) k)

  pub read_limit : length (take n input) ≤ limit
  read_limit = omega (arith, length-take-le n input (omega arith))

  read_length : length (take n input) ≡ min (length input) limit
  read_length = length-take-le n input (omega arith) ∙ e

  -- and the room for it
  pub room_from_is : (base each : ℕ) → base + each * length (take n input) ≡ room_from base each limit (length input)
  unfolding room_from
  room_from_is base each = rw read_length

  pub room_from_kept : (base each k : ℕ) (before : List ℕ) → k ≡ room_from base each limit (length input) → k ≤ length before
      → base + each * length (take n input) ≤ length before
  room_from_kept base each k before d h = omega (arith, room_from_is base each)

  pub filled_from : (base each k r : ℕ) (print : List ℕ → List ℕ) (text before after : List ℕ) → k ≡ room_from base each limit (length input) → k ≤ length before
      → text ≡ take n input → Wrote (base + each * length text) (print text) before after 0 r
      → Filled (room_from base each limit (length input)) (print (take limit input)) before after r
  filled_from base each k r print text before after d h f p =
      let most : base + each * length text ≡ room_from base each limit (length input) = ap (λ (x : List ℕ). base + each * length x) f ∙ room_from_is base each in
      printed (omega arith)
      (subst (λ (x : List ℕ). Wrote (room_from base each limit (length input)) (print x) before after 0 r) (f ∙ limit_is) (rw most at p))

  pub room_is : (each : ℕ) → 1564 + each * length (take n input) ≡ room_in each limit (length input)
  unfolding room_in
  room_is each = rw read_length

  pub room_kept : (each k : ℕ) (before : List ℕ) → k ≡ room_in each limit (length input) → k ≤ length before
      → 1564 + each * length (take n input) ≤ length before
  room_kept each k before d h = omega (arith, room_is each)

  pub filled_printed : (each k r : ℕ) (print : List ℕ → List ℕ) (text before after : List ℕ) → k ≡ room_in each limit (length input) → k ≤ length before
      → text ≡ take n input → Wrote (1564 + each * length text) (print text) before after 0 r
      → Filled (room_in each limit (length input)) (print (take limit input)) before after r
  unfolding room_in room_from
  filled_printed each k r print text before after d h f p = filled_from 1564 each k r print text before after d h f p
