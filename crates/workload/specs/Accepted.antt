-- Every line of a trial is accepted, and enough of each kind come, for every seed. Assumes nothing.
-- ---- one line
use Rattle.std.specs.Prelude.{◌≡◌, ℕ, zero, suc, ◌+◌, ◌*◌, ◌<◌, ◌≤◌, List, [], ◌∷◌, length, nat_lt, refl}
use Rattle.std.proofs.Common.{mul-le-mul_left, arith}
use borrow.Author.Tests.{ltb-true, ltb-false}
use Rattle.bounded.specs.Tests.{both, gate_le}
use Rattle.bounded.specs.Sum.{sum_le, sum_const}
use Rattle.lines.specs.declared.read.Call.{Call}
use Rattle.lines.specs.declared.read.Line.{Line}
use Rattle.lines.specs.declared.read.Line.TheVariants.{Word, Call as CallLine}
use Rattle.lines.specs.Input.{Narrow, AllNarrow}
use Rattle.session.specs.Calls.{shown}
use Rattle.session.specs.Facts.{facts_of}
use Rattle.transcript.specs.Step.{queue_limit, call_of}
use Rattle.workload.specs.Table.{row_count}
use Rattle.workload.specs.Trial.{Trial, line_for, onward, lines_from}
use Rattle.workload.specs.Statement.{count_of}
use Rattle.workload.specs.Loose.{count_few}
use Rattle.workload.specs.Stands.{next_at, running, Stand, rows, period}

-- a line that `shuffle` accepts: fewer than 1,024 words wait, or the call is not refused
pub data Accepted (x : Trial) : Line → Type 0 where
  queued : (w : ℕ) → length x.queue < queue_limit → Accepted x (Word w)
  answered : (c : Call) → (shown (call_of x.session x.queue c).answer).number ≡ 0 → Accepted x (CallLine c)

-- y is a line that may come next
pub record Follows (seed : ℕ) (x : Trial) (done : List Line) (y : Line) : Type 0 where
  pub accepted : Accepted x y
  pub narrow : Narrow y
  pub stand : Stand seed (onward x y) (y ∷ done)

-- ---- all lines

abbrev pub AllAccepted : Trial → List Line → Type 0
AllAccepted x [] = Unit
AllAccepted x (y ∷ l) = Accepted x y × AllAccepted (onward x y) l

-- the lines done once l has come as well
abbrev pub past : List Line → List Line → List Line
past [] done = done
past (y ∷ l) done = past l (y ∷ done)

pub record Played (seed : ℕ) (x : Trial) (done l : List Line) : Type 0 where
  pub accepted : AllAccepted x l
  pub narrow : AllNarrow l
  pub last : Trial
  pub stand : Stand seed last (past l done)

pub lines_length : (k : ℕ) (x : Trial) → length (lines_from k x) ≡ k
unfolding lines_from
lines_length zero x = refl
lines_length (suc k) x = omega (arith, lines_length k (onward x (line_for x)))

-- ---- so many lines have enough of each kind

module _ (seed : ℕ) (x : Trial) (done : List Line) (h : Stand seed x done) where
  abbrev n : ℕ
  n = row_count seed

  abbrev clock : ℕ
  clock = x.session.clock

  divided : {a b : ℕ} → n * a ≤ n * b → a ≤ b
  divided {a} {b} l =
      both (nat_lt b a) (λ e. absurd (omega (arith, mul-le-mul_left {m = b + 1} {n = a} n (omega (arith, ltb-true b a e)), count_few seed)))
      (λ e. ltb-false b a e)

  -- an arrival for every 8 ticks at least
  clock_low : clock ≤ 8 * count_of 65 done
  clock_low =
      divided (omega (arith, h.most, sum_le (λ i. clock) (next_at x.session) n h.behind, sum_const clock n))

  near_next : (i : ℕ) → i < n → next_at x.session i ≤ clock + 8 * n
  unfolding next_at
  near_next i l =
      omega (arith, (facts_of x.session h.good.sound).next i (omega (arith, rows seed x done h)), (period seed x done h i l).1)

  -- and no more than one for every 4, besides those of the first period
  clock_high : 4 * count_of 65 done ≤ clock + 8 * n
  clock_high =
      divided (omega (arith, h.least, sum_le (next_at x.session) (λ i. clock + 8 * n) n near_next, sum_const (clock + 8 * n) n))

  pub enough : length done + n ≡ 500 → (20 ≤ count_of 65 done) × (29 ≤ count_of 82 done)
  enough e =
      let c = count_few seed in
      let p = gate_le x.given 1 in
      let q = gate_le (running x.session) 1 in
      (omega (arith, clock_low, h.all, h.ticks, h.words, h.runs), omega (arith, clock_high, h.all, h.far, h.words, h.runs))
