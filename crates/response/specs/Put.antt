-- The code that writes the lines about jobs. Assumes nothing.
use Rattle.std.specs.Prelude.{ℕ, ◌+◌, ◌-◌, ◌≤◌, ◌<◌, ◌≡◌, cond, List, [], ltb, length, get_or}
use Rattle.std.proofs.Common.{arith, lt-ltb, le-ltb}
use Rattle.decimal.specs.Buffer.{Wrote, wrote_none, wrote_more, wrote_within}
use Rattle.decimal.specs.Joined.{join_to, Joined, joined_start, joined_all, joined_laws}
use Rattle.edf.specs.Demand.{TaskSet}
use Rattle.lines.specs.Text.{field_text, head_text}
use Rattle.table.specs.declared.rows.Task.{Task}
use Rattle.table.specs.Rows.{Fit, FitRow}
use Rattle.session.specs.declared.Session.{Session}
use Rattle.session.specs.Reading.{clock_end, job_at}
use Rattle.transcript.specs.declared.step.Play.{Play}
use Rattle.response.specs.Jobs.{line_by_lem, job_text}
use Rattle.response.specs.Responses.{Responses}

-- ---- definitions

-- the numbers of a job of row i have their line: none of them wraps
pub record LegibleRow (τ : TaskSet) (spans : List ℕ) (i due inversions : ℕ) : Type 0 where
  pub fit : Fit τ
  pub table : Responses τ spans
  pub known : i < τ.rows
  pub after : τ.D i ≤ due
  pub soon : due ≤ clock_end + 1000000
  pub less : inversions ≤ clock_end

-- and so have those of each waiting job
pub record Legible (τ : TaskSet) (spans : List ℕ) (s : Session) (xs : List ℕ) : Type 0 where
  pub fit : Fit τ
  pub table : Responses τ spans
  pub row : (i : ℕ) → i < τ.rows → 1 ≤ (job_at s i).left → LegibleRow τ spans i (job_at s i).due (get_or xs i 0)

-- and there is room for 16 lines
pub record Finishing (τ : TaskSet) (spans : List ℕ) (s : Session) (p : Play) (xs out : List ℕ) : Type 0 where
  pub legible : Legible τ spans s xs
  pub room : p.end + 2048 ≤ length out

-- the line of row i's job, if it waits
unfoldable pub pending_text : TaskSet → Session → List ℕ → ℕ → List ℕ
pending_text τ s xs i = cond (ltb 0 (job_at s i).left) (job_text 80 (line_by_lem τ s.clock i ((job_at s i).due - τ.D i) (get_or xs i 0))) []

unfoldable pub pendings_text : TaskSet → Session → List ℕ → List ℕ
pendings_text τ s xs = join_to (pending_text τ s xs) τ.rows

-- ---- `put_job`

module _ (τ : TaskSet) (spans : List ℕ) (i due x : ℕ) (g : LegibleRow τ spans i due x) (k : Task) (f : FitRow τ i k) where
  pub job_after_lem : k.deadline ≤ due
  job_after_lem = omega (arith, g.after, f.row.deadline)

  pub job_first : (n : ℕ) → 9223372036854775807 < n → due - k.deadline + get_or spans i 0 < n
  job_first n h = omega (arith, g.soon, (g.table.each i g.known).small)

  pub job_sum : (n : ℕ) → 9223372036854775807 < n → due - k.deadline + get_or spans i 0 + x < n
  job_sum n h = omega (arith, g.soon, g.less, (g.table.each i g.known).small)

  pub job_is : (letter clock : ℕ) (d a b c e : List ℕ) (at p q r t : ℕ) → at + 128 ≤ length d → Wrote 65 (head_text clock letter 0 i) d a at p
      → Wrote 21 (field_text (due - k.deadline) 9) a b p q → Wrote 21 (field_text (due - k.deadline + get_or spans i 0 + x) 9) b c q r
      → Wrote 21 (field_text x 10) c e r t → Wrote 128 (job_text letter (line_by_lem τ clock i (due - τ.D i) x)) d e at t
  unfolding job_text
  job_is letter clock d a b c e at p q r t room u v w z =
      let m = wrote_more 65 21 _ _ d a b at p q (omega (arith, u.short)) u v in
      let n = wrote_more 86 21 _ _ d b c at q r (omega (arith, m.short)) m w in
      rw (← f.row.deadline, ← (g.table.each i g.known).is) (wrote_more 107 21 _ _ d c e at r t (omega (arith, n.short)) n z)

pub job_places : (τ : TaskSet) (spans : List ℕ) (i due x : ℕ) → LegibleRow τ spans i due x → i < 16
job_places τ spans i due x g = omega (arith, g.known, g.fit.few)

pub ruleset job_laws = (job_after_lem, job_first, job_sum, job_is, job_places)

-- ---- `put_waiting`

module _ (τ : TaskSet) (spans : List ℕ) (s : Session) (xs : List ℕ) (g : Legible τ spans s xs) (i : ℕ) (h : i < τ.rows) where
  pub waiting_place : i < 16
  waiting_place = omega (arith, g.fit.few)

  pub waiting_none : (d : List ℕ) (at : ℕ) → (job_at s i).left ≡ 0 → Wrote 128 (pending_text τ s xs i) d d at at
  unfolding pending_text
  waiting_none d at z = simp (le-ltb 0 (job_at s i).left (omega arith)) (wrote_none 128 d at)

  pub waiting_row : ((job_at s i).left ≡ 0 → ⊥) → LegibleRow τ spans i (job_at s i).due (get_or xs i 0)
  waiting_row ne = g.row i h (omega arith)

  pub waiting_put : (d e : List ℕ) (at p : ℕ) → ((job_at s i).left ≡ 0 → ⊥)
      → Wrote 128 (job_text 80 (line_by_lem τ s.clock i ((job_at s i).due - τ.D i) (get_or xs i 0))) d e at p → Wrote 128 (pending_text τ s xs i) d e at p
  unfolding pending_text
  waiting_put d e at p ne w = simp (lt-ltb 0 (job_at s i).left (omega arith)) w

pub ruleset waiting_cases = (waiting_place, waiting_none, waiting_row, waiting_put)

-- ---- `put_pending`; the code counts the rows

module _ (τ : TaskSet) (spans : List ℕ) (s : Session) (xs : List ℕ) (rows : ℕ) (is : rows ≡ τ.rows) (d : List ℕ) (p : Play) (g : Finishing τ spans s p xs d) where
  pub pending_start : Joined (pending_text τ s xs) 128 rows d p.end 0 d p.end
  pending_start = joined_start (pending_text τ s xs) 128 rows d p.end (omega (arith, g.legible.fit.few, g.room))

  pub pending_legible : Legible τ spans s xs
  pending_legible = g.legible

  pub pending_end : (i : ℕ) (e : List ℕ) (q : ℕ) → Joined (pending_text τ s xs) 128 rows d p.end i e q → rows ≤ i → Wrote 2048 (pendings_text τ s xs) d e p.end q
  unfolding pendings_text
  pending_end i e q x h =
      rw is at (wrote_within _ 2048 _ d e p.end q (omega (arith, g.legible.fit.few)) (joined_all (pending_text τ s xs) 128 rows d p.end i e q x h))

pub ruleset pending_laws = (pending_start, pending_legible, pending_end, joined_laws)
