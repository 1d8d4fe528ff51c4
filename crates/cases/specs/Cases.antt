-- The marked tables and moments (docs/SPECIFICATION.md §7), as one table of cases and one theorem. Assumes nothing.
use Rattle.std.specs.Prelude.{ℕ, zero, suc, ◌-◌, ◌/◌, ◌≡◌, refl, Bool, true, false, ◌&&◌, leb, List, [], ◌∷◌, ◌++◌, ℤ, pos, neg_ℤ, length, take, drop, replicate}
use Rattle.std.proofs.Common.{◌∙◌, arith}
use Rattle.bounded.specs.Tests.{gate}
use Rattle.bounded.specs.Sum.{sum_to}
use Rattle.bounded.specs.Fold.{fold_to}
use Rattle.bounded.specs.All.{all_to}
use Rattle.bounded.specs.Quotient.{ceil_div}
use Rattle.bounded.specs.Least.{least_from}
use Rattle.edf.specs.Jobs.{jobs_by_lem}
use Rattle.edf.specs.Demand.{demand, request, interference}
use Rattle.edf.specs.State.{pending, to_come, load_besides}
use Rattle.table.specs.Rows.{tasks_of, row_rule, broken, first_broken_lem}
use Rattle.table.specs.Budgets.{budget_of, brittle, loose_to, loose, firm_to, firm, values_to, values_of}
use Rattle.table.specs.Busy.{busy_length}
use Rattle.table.specs.Verdict.{admitted, bad_length, first_overload, overloaded, heavy_kind, judged_of, opinion_of}
use Rattle.session.specs.declared.Job.{Job}
use Rattle.session.specs.declared.Session.{Session}
use Rattle.session.specs.Reading.{clock_end, no_job, rows_of, waits, ahead, most_budget}
use Rattle.session.specs.Sound.{sound_rows, sound_waiting, sound_job, runs, affords, sound_choice, sound}
use Rattle.session.specs.Order.{arrival_of, came_before, before, is_head, head_of, permits, brittle_due_lem, near, candidate, idles, candidates, position, row_with, candidate_at}
use Rattle.session.specs.Choose.{draw_limit, passed_over, draw, draw_used, contested, drawn, pick_of, room, unopposed, length_drawn, span_of, pick_used, used_of}
use Rattle.session.specs.Calls.{Shown, shown, three, arrival_budget, new_budget, arrive_in, choose_in, jobs_with, aged_job, over_by, over_after, advance_in, gains, given_job, finish_in, arrive_of, choose_of, advance_of, finish_of}
use Rattle.session.specs.Start.{words_to, fresh_of, start_of, session_of}
use Rattle.guarantee.specs.Ledger.{Call, arrive, choose, advance, finish}
use Rattle.guarantee.specs.Statement.{outcome_of}
use Rattle.table.specs.Compute.{quiet_to, busy_is, not_overloaded, first_over, opinion_over, opinion_heavy}

-- what is asked of the definitions
pub data Question : Type 0 where
  -- the answer on a table
  verdict : List ℕ → Question
  -- V of each row
  budgets : List ℕ → Question
  busy : List ℕ → Question
  -- the session that a start gives
  opened : List ℕ → Question
  -- whether a session is sound
  soundness : Session → Question
  -- the first in order of the waiting jobs of a session
  head : Session → Question
  -- whether each of the first n rows of a session is a candidate, and then whether idle is one
  chosen_from : Session → ℕ → Question
  -- the brittle deadline of a session
  brittle_by : Session → Question
  -- a call on a session
  called : Session → Call → Question

-- what the definitions give
pub data Reply : Type 0 where
  answer : ℕ → ℕ → ℕ → Reply
  values : List ℤ → Reply
  ticks : ℕ → Reply
  fresh : Session → Reply
  flag : Bool → Reply
  row : ℕ → Reply
  flags : List Bool → Reply
  -- an answer's number and values, the words used, and the session left
  outcome : Shown → ℕ → Session → Reply

abbrev candidates_to : Session → ℕ → List Bool
candidates_to s zero = idles s ∷ []
candidates_to s (suc n) = candidates_from s n (idles s ∷ [])
  where
    candidates_from : Session → ℕ → List Bool → List Bool
    candidates_from s zero l = candidate s 0 ∷ l
    candidates_from s (suc n) l = candidates_from s n (candidate s (suc n) ∷ l)

abbrev pub reply : Question → Reply
reply (verdict l) = answer (opinion_of l).number (opinion_of l).first (opinion_of l).second
reply (budgets l) = values (take (tasks_of l).rows (values_of (tasks_of l)))
reply (busy l) = ticks (busy_length (tasks_of l))
reply (opened l) = fresh (session_of l)
reply (soundness s) = flag (sound s)
reply (head s) = row (head_of s)
reply (chosen_from s n) = flags (candidates_to s n)
reply (brittle_by s) = ticks (brittle_due_lem s)
reply (called s c) = outcome (shown (outcome_of s c).answer) (outcome_of s c).used (outcome_of s c).session

pub record Case : Type 0 where
  pub asked : Question
  pub expected : Reply

abbrev is : Question → Reply → Case
is q r = record { asked = q; expected = r }

-- the tables, each row C, T, D
abbrev easy : List ℕ
easy = 1 ∷ 10 ∷ 10 ∷ 2 ∷ 20 ∷ 20 ∷ 2 ∷ 5 ∷ 5 ∷ []

abbrev heavy : List ℕ
heavy = 4 ∷ 10 ∷ 10 ∷ 1 ∷ 20 ∷ 20 ∷ 1 ∷ 5 ∷ 5 ∷ 2 ∷ 12 ∷ 12 ∷ []

abbrev long : List ℕ
long = 1 ∷ 5 ∷ 5 ∷ 3 ∷ 8 ∷ 8 ∷ 2 ∷ 9 ∷ 9 ∷ 4 ∷ 20 ∷ 20 ∷ []

abbrev full : List ℕ
full = 1 ∷ 1 ∷ 1 ∷ []

abbrev over : List ℕ
over = 1 ∷ 2 ∷ 2 ∷ 2 ∷ 3 ∷ 3 ∷ []

abbrev wrong : List ℕ
wrong = 3 ∷ 5 ∷ 2 ∷ []

-- a session of a few rows: its kind and table, the rows' jobs, the clock and the choice
abbrev session : ℕ → List ℕ → List Job → ℕ → ℕ → ℕ → Session
session kind l jobs clock c n = record {
  clock = clock;
  kind = kind;
  count = length l / 3;
  words = l ++ replicate (48 - length l) 0;
  jobs = jobs ++ replicate (16 - length jobs) no_job;
  chosen = c;
  span = n;
}

abbrev job : ℕ → ℕ → ℕ → ℕ → Job
job next due left budget = record { next = next; due = due; left = left; budget = budget }

-- deadlines 10, 10, 20 with budgets 3, 0, 4; rows 0 and 1 arrived on the same tick
abbrev equal : Session
equal =
    session 1 (1 ∷ 10 ∷ 10 ∷ 1 ∷ 10 ∷ 10 ∷ 1 ∷ 20 ∷ 20 ∷ []) (job 10 10 1 3 ∷ job 10 10 1 0 ∷ job 20 20 1 4 ∷ []) 0 0 0

-- two rows of unequal D, and sessions of theirs from call to call: row 1 arrives at 0 and row 0 at 10, both due at 20
abbrev unequal : List ℕ
unequal = 1 ∷ 10 ∷ 10 ∷ 1 ∷ 20 ∷ 20 ∷ []

abbrev of : Job → Job → ℕ → ℕ → ℕ → Session
of a b clock c n = session 1 unequal (a ∷ b ∷ []) clock c n

abbrev u₀ : Session
u₀ = of no_job no_job 0 0 0

abbrev u₁ : Session
u₁ = of no_job (job 20 20 1 17) 0 0 0

abbrev u₂ : Session
u₂ = of no_job (job 20 20 1 17) 0 16 10

abbrev u₃ : Session
u₃ = of no_job (job 20 20 1 7) 10 0 0

abbrev u₄ : Session
u₄ = of (job 20 20 1 8) (job 20 20 1 7) 10 0 0

abbrev u₅ : ℕ → Session
u₅ c = of (job 20 20 1 8) (job 20 20 1 7) 10 c 1

-- the same rows in a record that no call leads to: both due at 5, and arrived 5 and 15 ticks before 0
abbrev early : Session
early = of (job 5 5 1 8) (job 5 5 1 17) 0 0 0

-- five rows, and sessions of theirs from call to call: rows 0 to 3 arrive at 0, due at 20, 30, 30 and 40; row 1 and then
-- row 0 are over early
abbrev behind : List ℕ
behind = 2 ∷ 100 ∷ 20 ∷ 5 ∷ 100 ∷ 30 ∷ 3 ∷ 100 ∷ 30 ∷ 4 ∷ 100 ∷ 40 ∷ 1 ∷ 100 ∷ 50 ∷ []

abbrev four : Job → Job → Job → Job → ℕ → ℕ → ℕ → Session
four a b c d clock chosen n = session 1 behind (a ∷ b ∷ c ∷ d ∷ no_job ∷ []) clock chosen n

abbrev f₀ : Session
f₀ = four no_job no_job no_job no_job 0 0 0

abbrev f₁ : Session
f₁ = four (job 100 20 2 18) no_job no_job no_job 0 0 0

abbrev f₂ : Session
f₂ = four (job 100 20 2 18) (job 100 30 5 20) no_job no_job 0 0 0

abbrev f₃ : Session
f₃ = four (job 100 20 2 18) (job 100 30 5 20) (job 100 30 3 20) no_job 0 0 0

abbrev f₄ : Session
f₄ = four (job 100 20 2 18) (job 100 30 5 20) (job 100 30 3 20) (job 100 40 4 26) 0 0 0

abbrev f₅ : Session
f₅ = four (job 100 20 2 18) (job 100 30 5 20) (job 100 30 3 20) (job 100 40 4 26) 0 1 3

-- before and after row 1 is over, where row 3 has the budget b; calls lead to 26 and 29
abbrev f₆ : ℕ → Session
f₆ b = four (job 100 20 2 16) (job 100 30 3 20) (job 100 30 3 20) (job 100 40 4 b) 2 1 1

abbrev f₇ : ℕ → Session
f₇ b = four (job 100 20 2 16) (job 100 0 0 0) (job 100 30 3 20) (job 100 40 4 b) 2 0 0

abbrev f₈ : Session
f₈ = four (job 100 20 2 16) (job 100 0 0 0) (job 100 30 3 20) (job 100 40 4 29) 2 0 2

abbrev f₉ : Session
f₉ = four (job 100 0 0 0) (job 100 0 0 0) (job 100 30 3 22) (job 100 40 4 31) 2 0 0

-- the listing's table, and its sessions from call to call
abbrev listing : List ℕ
listing = 2 ∷ 10 ∷ 10 ∷ 3 ∷ 20 ∷ 15 ∷ []

abbrev at : Job → Job → ℕ → ℕ → ℕ → Session
at a b clock c n = session 1 listing (a ∷ b ∷ []) clock c n

abbrev s₀ : Session
s₀ = at no_job no_job 0 0 0

abbrev s₁ : Session
s₁ = at (job 10 10 2 8) no_job 0 0 0

abbrev s₂ : Session
s₂ = at (job 10 10 2 8) (job 20 15 3 10) 0 0 0

abbrev s₃ : Session
s₃ = at (job 10 10 2 8) (job 20 15 3 10) 0 1 1

abbrev s₄ : Session
s₄ = at (job 10 10 2 7) (job 20 15 2 10) 1 0 0

abbrev s₅ : Session
s₅ = at (job 10 10 2 7) (job 20 15 2 10) 1 16 6

abbrev s₆ : Session
s₆ = at (job 10 10 2 5) (job 20 15 2 8) 3 16 4

abbrev s₇ : Session
s₇ = at (job 10 10 2 4) (job 20 15 2 7) 4 16 3

-- s₂ with a choice: c for n ticks
abbrev s₂With : ℕ → ℕ → Session
s₂With c n = at (job 10 10 2 8) (job 20 15 3 10) 0 c n

-- at 7, where nothing has arrived yet
abbrev late : Session
late = at no_job no_job 7 0 0

-- sessions of the mixed table, whose rows 2 and 3 are brittle, from call to call: rows 0 and 3 arrive at 0, due at 10 and 12,
-- and row 2 at 2, due at 7
abbrev mixed : Job → Job → Job → Job → ℕ → ℕ → ℕ → Session
mixed a b c d clock chosen n = session 3 heavy (a ∷ b ∷ c ∷ d ∷ []) clock chosen n

abbrev m₀ : Session
m₀ = mixed no_job no_job no_job no_job 0 0 0

abbrev m₁ : Session
m₁ = mixed (job 10 10 4 4) no_job no_job no_job 0 0 0

abbrev m₂ : Session
m₂ = mixed (job 10 10 4 4) no_job no_job (job 12 12 2 0) 0 0 0

abbrev m₃ : Session
m₃ = mixed (job 10 10 4 4) no_job no_job (job 12 12 2 0) 0 0 4

abbrev m₄ : Session
m₄ = mixed (job 10 10 2 4) no_job no_job (job 12 12 2 0) 2 0 2

abbrev m₅ : Session
m₅ = mixed (job 10 10 2 4) no_job (job 7 7 1 0) (job 12 12 2 0) 2 0 0

abbrev m₆ : Session
m₆ = mixed (job 10 10 2 4) no_job (job 7 7 1 0) (job 12 12 2 0) 2 2 1

-- at 3, where the next job of row 2 can arrive at x; calls lead to 7
abbrev m₇ : ℕ → Session
m₇ x = mixed (job 10 10 2 4) no_job (job x 0 0 0) (job 12 12 2 0) 3 0 0

-- the same with a choice: c for n ticks
abbrev m₇With : ℕ → ℕ → ℕ → Session
m₇With x c n = mixed (job 10 10 2 4) no_job (job x 0 0 0) (job 12 12 2 0) 3 c n

-- the same where the budgets of rows 0 and 3 are a and b
abbrev m₇Has : ℕ → ℕ → Session
m₇Has a b = mixed (job 10 10 2 a) no_job (job 7 0 0 0) (job 12 12 2 b) 3 0 0

abbrev m₈ : Session
m₈ = mixed (job 10 10 2 4) (job 23 23 1 8) (job 7 0 0 0) (job 12 12 2 0) 3 0 0

abbrev m₉ : Session
m₉ = mixed (job 10 10 2 4) (job 23 23 1 8) (job 7 0 0 0) (job 12 12 2 0) 3 0 2

abbrev m₁₀ : Session
m₁₀ = mixed (job 10 0 0 0) (job 23 23 1 10) (job 7 0 0 0) (job 12 12 2 0) 3 0 0

-- rows 0 and 1 wait, both with budget
abbrev both_wait : Session
both_wait = mixed (job 10 10 4 4) (job 20 20 1 5) no_job no_job 0 0 0

pub mixed_cases : List Case
mixed_cases =
    is (called m₀ (arrive 0)) (outcome (three 0 0 10) 0 m₁)
    ∷ is (called m₁ (arrive 3)) (outcome (three 0 3 12) 0 m₂)
    ∷ is (brittle_by m₂) (ticks 5)
    ∷ is (chosen_from m₂ 4) (flags (true ∷ false ∷ false ∷ false ∷ false ∷ []))
    ∷ is (called m₂ (choose (1 ∷ []))) (outcome (three 0 0 4) 0 m₃)
    ∷ is (called m₃ (advance 2)) (outcome (three 0 2 0) 0 m₄)
    ∷ is (called m₄ (arrive 2)) (outcome (three 0 2 7) 0 m₅)
    ∷ is (called m₅ (choose (1 ∷ []))) (outcome (three 0 2 1) 0 m₆)
    ∷ is (called m₆ (advance 1)) (outcome (three 0 0 1) 0 (m₇ 7))
    ∷ is (brittle_by (m₇ 7)) (ticks 12)
    ∷ is (chosen_from (m₇ 7) 4) (flags (true ∷ false ∷ false ∷ true ∷ false ∷ []))
    ∷ is (called (m₇ 7) (choose (1 ∷ []))) (outcome (three 0 3 2) 1 (m₇With 7 3 2))
    ∷ is (brittle_by (m₇ 6)) (ticks 11)
    ∷ is (chosen_from (m₇ 6) 4) (flags (true ∷ false ∷ false ∷ false ∷ false ∷ []))
    ∷ is (called (m₇ 6) (choose (1 ∷ []))) (outcome (three 0 0 2) 0 (m₇With 6 0 2))
    ∷ is (chosen_from both_wait 4) (flags (true ∷ false ∷ false ∷ false ∷ false ∷ []))
    ∷ is (called (m₇ 7) (arrive 1)) (outcome (three 0 1 23) 0 m₈)
    ∷ is (called m₈ (choose [])) (outcome (three 0 0 2) 0 m₉)
    ∷ is (called m₉ finish) (outcome (three 0 0 2) 0 m₁₀)
    ∷ is (soundness (m₇Has 6 0)) (flag true)
    ∷ is (soundness (m₇Has 7 0)) (flag false)
    ∷ is (soundness (m₇Has 1 1)) (flag false)
    ∷ []

pub cases : List Case
cases =
    is (verdict easy) (answer 0 1 3)
    ∷ is (budgets easy) (values (pos 3 ∷ pos 8 ∷ pos 0 ∷ []))
    ∷ is (verdict heavy) (answer 0 3 4)
    ∷ is (budgets heavy) (values (pos 1 ∷ pos 3 ∷ neg_ℤ (pos 3) ∷ neg_ℤ (pos 2) ∷ []))
    ∷ is (busy heavy) (ticks 9)
    ∷ is (verdict long) (answer 0 2 4)
    ∷ is (busy long) (ticks 80)
    ∷ is (verdict full) (answer 0 1 1)
    ∷ is (budgets full) (values (pos 0 ∷ []))
    ∷ is (verdict over) (answer 3 6 7)
    ∷ is (verdict wrong) (answer 2 0 0)
    ∷ is (verdict []) (answer 1 0 0)
    ∷ is (soundness equal) (flag true)
    ∷ is (chosen_from equal 3) (flags (true ∷ true ∷ false ∷ false ∷ []))
    ∷ is (head equal) (row 0)
    ∷ is (opened unequal) (fresh u₀)
    ∷ is (called u₀ (arrive 1)) (outcome (three 0 1 20) 0 u₁)
    ∷ is (called u₁ (choose (1 ∷ 9 ∷ []))) (outcome (three 0 16 10) 2 u₂)
    ∷ is (called u₂ (advance 10)) (outcome (three 0 0 0) 0 u₃)
    ∷ is (called u₃ (arrive 0)) (outcome (three 0 0 20) 0 u₄)
    ∷ is (head u₄) (row 1)
    ∷ is (called u₄ (choose [])) (outcome (three 0 1 1) 0 (u₅ 1))
    ∷ is (called u₄ (choose (0 ∷ []))) (outcome (three 0 1 1) 1 (u₅ 1))
    ∷ is (called u₄ (choose (1 ∷ []))) (outcome (three 0 0 1) 1 (u₅ 0))
    ∷ is (soundness early) (flag true)
    ∷ is (head early) (row 1)
    ∷ is (opened behind) (fresh f₀)
    ∷ is (called f₀ (arrive 0)) (outcome (three 0 0 20) 0 f₁)
    ∷ is (called f₁ (arrive 1)) (outcome (three 0 1 30) 0 f₂)
    ∷ is (called f₂ (arrive 2)) (outcome (three 0 2 30) 0 f₃)
    ∷ is (called f₃ (arrive 3)) (outcome (three 0 3 40) 0 f₄)
    ∷ is (called f₄ (choose (1 ∷ 2 ∷ []))) (outcome (three 0 1 3) 2 f₅)
    ∷ is (called f₅ (advance 2)) (outcome (three 0 1 0) 0 (f₆ 26))
    ∷ is (called (f₆ 26) finish) (outcome (three 0 1 3) 0 (f₇ 29))
    ∷ is (called (f₇ 29) (choose [])) (outcome (three 0 0 2) 0 f₈)
    ∷ is (called f₈ finish) (outcome (three 0 0 2) 0 f₉)
    ∷ is (called (f₆ 33) finish) (outcome (three 0 1 3) 0 (f₇ 36))
    ∷ is (called (f₆ 34) finish) (outcome (three 0 1 3) 0 (f₇ 36))
    ∷ is (called (f₆ 36) finish) (outcome (three 0 1 3) 0 (f₇ 36))
    ∷ is (called (f₆ 37) finish) (outcome (three 5 0 0) 0 (f₆ 37))
    ∷ is (opened listing) (fresh s₀)
    ∷ is (called s₀ (arrive 0)) (outcome (three 0 0 10) 0 s₁)
    ∷ is (called s₁ (arrive 1)) (outcome (three 0 1 15) 0 s₂)
    ∷ is (called s₂ (choose (4 ∷ 9 ∷ []))) (outcome (three 0 1 1) 2 s₃)
    ∷ is (called s₃ (advance 1)) (outcome (three 0 0 0) 0 s₄)
    ∷ is (called s₄ (choose (2 ∷ 5 ∷ []))) (outcome (three 0 16 6) 2 s₅)
    ∷ is (called s₅ (advance 2)) (outcome (three 0 4 0) 0 s₆)
    ∷ is (called s₆ (choose (3 ∷ []))) (outcome (three 8 4 0) 0 s₆)
    ∷ is (called s₆ (advance 1)) (outcome (three 0 3 0) 0 s₇)
    ∷ is (called s₇ finish) (outcome (three 11 0 0) 0 s₇)
    ∷ is (called s₇ (arrive 0)) (outcome (three 7 0 10) 0 s₇)
    ∷ is (called late (arrive 1)) (outcome (three 0 1 22) 0 (at no_job (job 27 22 3 10) 7 0 0))
    ∷ is (called s₂ (choose (4294967295 ∷ 4 ∷ 9 ∷ []))) (outcome (three 0 1 1) 3 s₃)
    ∷ is (called s₂ (choose (4 ∷ 4294967295 ∷ 9 ∷ []))) (outcome (three 0 1 1) 3 s₃)
    ∷ is (called s₂ (choose (4294967294 ∷ 5 ∷ []))) (outcome (three 0 16 6) 2 (s₂With 16 6))
    ∷ is (called s₂ (choose (4294967295 ∷ 4294967295 ∷ []))) (outcome (three 0 0 2) 2 (s₂With 0 2))
    ∷ is (called s₂ (choose (4 ∷ 4294967295 ∷ []))) (outcome (three 0 1 3) 2 (s₂With 1 3))
    ∷ is (opened heavy) (fresh m₀)
    ∷ mixed_cases

-- ---- the tables that are not loose, computed up to the tick that decides them

-- rows that are not loose, on a slice that is a table of rows that keep their rule
over_first : (6 ≡ first_overload (tasks_of over)) × (overloaded (tasks_of over) ≡ true)
unfolding tasks_of quiet_to all_to demand request sum_to gate jobs_by_lem ceil_div
over_first = first_over (tasks_of over) 5 refl (omega arith) (omega arith)

over_verdict : reply (verdict over) ≡ answer 3 6 7
unfolding bad_length first_broken_lem broken row_rule tasks_of loose loose_to brittle all_to budget_of interference demand request sum_to gate jobs_by_lem ceil_div least_from
over_verdict = rw (opinion_over over refl refl refl 6 over_first)

heavy_busy : busy_length (tasks_of heavy) ≡ 9
unfolding tasks_of quiet_to all_to demand request sum_to gate jobs_by_lem ceil_div
heavy_busy = busy_is (tasks_of heavy) 8 refl (omega arith) refl

heavy_opinion : opinion_of heavy ≡ admitted 3 (tasks_of heavy)
unfolding bad_length first_broken_lem broken row_rule tasks_of loose loose_to brittle heavy_kind firm firm_to all_to budget_of interference quiet_to demand request sum_to gate jobs_by_lem ceil_div least_from
heavy_opinion =
    rw (opinion_heavy heavy refl refl refl (not_overloaded (tasks_of heavy) 8 refl (omega arith) refl (omega arith)) (omega (arith, heavy_busy)))

long_busy : busy_length (tasks_of long) ≡ 80
unfolding tasks_of quiet_to all_to demand request sum_to gate jobs_by_lem ceil_div
long_busy = busy_is (tasks_of long) 79 refl (omega arith) refl

long_verdict : reply (verdict long) ≡ answer 0 2 4
unfolding bad_length first_broken_lem broken row_rule tasks_of loose loose_to brittle heavy_kind firm firm_to all_to budget_of interference quiet_to demand request sum_to gate jobs_by_lem ceil_div least_from
long_verdict =
    rw (opinion_heavy long refl refl refl (not_overloaded (tasks_of long) 79 refl (omega arith) refl (omega arith)) (omega (arith, long_busy)))

-- ---- the sessions of the mixed table

-- the session that a start of an admitted table gives
opened_by : (l : List ℕ) (k : ℕ) → opinion_of l ≡ admitted k (tasks_of l) → session_of l ≡ fresh_of l k
unfolding start_of
opened_by l k e = simp e

-- such a session is sound exactly if its clock, jobs and choice are
mixed_sound : (s : Session) → rows_of s ≡ heavy → s.kind ≡ 3 → s.count ≡ 4
    → sound s ≡ (leb s.clock clock_end && (all_to (sound_job s) s.count && sound_choice s))
unfolding sound sound_rows
mixed_sound s e k n = simp (e, heavy_opinion, k, n)

-- and then a call gives what its core does
arrives : (s : Session) (k : ℕ) → sound s ≡ true → arrive_of s k ≡ arrive_in s k
unfolding arrive_of
arrives s k e = simp e

chooses : (s : Session) (l : List ℕ) → sound s ≡ true → choose_of s l ≡ choose_in s l
unfolding choose_of
chooses s l e = simp e

advances : (s : Session) (n : ℕ) → sound s ≡ true → advance_of s n ≡ advance_in s n
unfolding advance_of
advances s n e = simp e

finishes : (s : Session) → sound s ≡ true → finish_of s ≡ finish_in s
unfolding finish_of
finishes s e = simp e

-- ---- every case holds

abbrev pub Holds : Case → Type 0
Holds c = reply c.asked ≡ c.expected

abbrev pub All : List Case → Type 0
All [] = Unit
All (c ∷ l) = Holds c × All l

-- the mixed moments
mixed_moments : All mixed_cases
unfolding mixed_cases tasks_of all_to brittle budget_of fold_to interference sum_to gate jobs_by_lem ceil_div least_from rows_of waits ahead most_budget pending to_come load_besides arrival_budget new_budget sound_waiting sound_job runs affords sound_choice arrival_of came_before before is_head head_of permits brittle_due_lem near candidate idles candidates position row_with candidate_at draw_limit passed_over draw draw_used contested drawn pick_of room unopposed length_drawn span_of pick_used used_of arrive_in choose_in jobs_with aged_job over_by over_after advance_in gains given_job finish_in
mixed_moments =
    let ok : (s : Session) → rows_of s ≡ heavy → s.kind ≡ 3 → s.count ≡ 4 → (leb s.clock clock_end && (all_to (sound_job s) s.count && sound_choice s)) ≡ true → sound s ≡ true =
    λ s e k n h. mixed_sound s e k n ∙ h in (
      rw (arrives m₀ 0 (ok m₀ refl refl refl refl)),
      (
        rw (arrives m₁ 3 (ok m₁ refl refl refl refl)),
        (
          refl,
          (
            refl,
            (
              rw (chooses m₂ (1 ∷ []) (ok m₂ refl refl refl refl)),
              (
                rw (advances m₃ 2 (ok m₃ refl refl refl refl)),
                (
                  rw (arrives m₄ 2 (ok m₄ refl refl refl refl)),
                  (
                    rw (chooses m₅ (1 ∷ []) (ok m₅ refl refl refl refl)),
                    (
                      rw (advances m₆ 1 (ok m₆ refl refl refl refl)),
                      (
                        refl,
                        (
                          refl,
                          (
                            rw (chooses (m₇ 7) (1 ∷ []) (ok (m₇ 7) refl refl refl refl)),
                            (
                              refl,
                              (
                                refl,
                                (
                                  rw (chooses (m₇ 6) (1 ∷ []) (ok (m₇ 6) refl refl refl refl)),
                                  (
                                    refl,
                                    (
                                      rw (arrives (m₇ 7) 1 (ok (m₇ 7) refl refl refl refl)),
                                      (
                                        rw (chooses m₈ [] (ok m₈ refl refl refl refl)),
                                        (
                                          rw (finishes m₉ (ok m₉ refl refl refl refl)),
                                          (
                                            rw (mixed_sound (m₇Has 6 0) refl refl refl),
                                            (
                                              rw (mixed_sound (m₇Has 7 0) refl refl refl),
                                              (rw (mixed_sound (m₇Has 1 1) refl refl refl), tt),
                                            ),
                                          ),
                                        ),
                                      ),
                                    ),
                                  ),
                                ),
                              ),
                            ),
                          ),
                        ),
                      ),
                    ),
                  ),
                ),
              ),
            ),
          ),
        ),
      ),
    )

pub every_case : All cases
unfolding cases opinion_of judged_of bad_length first_broken_lem broken row_rule tasks_of loose loose_to all_to budget_of values_of values_to fold_to interference demand request sum_to gate jobs_by_lem ceil_div least_from rows_of waits ahead brittle most_budget pending to_come load_besides arrival_budget new_budget sound_rows sound_waiting sound_job runs affords sound_choice sound arrival_of came_before before is_head head_of permits brittle_due_lem near candidate idles candidates position row_with candidate_at draw_limit passed_over draw draw_used contested drawn pick_of room unopposed length_drawn span_of pick_used used_of arrive_in choose_in jobs_with aged_job over_by over_after advance_in gains given_job finish_in arrive_of choose_of advance_of finish_of words_to fresh_of start_of
every_case =
    (refl, (refl, (rw heavy_opinion, (refl, (rw heavy_busy, (long_verdict, (rw long_busy, (refl, (refl, (over_verdict, (refl, (refl, equals))))))))))))
  where
    -- words that are passed over
    passed : All (drop 52 cases)
    passed = (refl, (refl, (refl, (refl, (refl, (rw (opened_by heavy 3 heavy_opinion), mixed_moments))))))

    -- the listing, and a job that counts jobs to come from the clock on
    listed : All (drop 40 cases)
    listed = (refl, (refl, (refl, (refl, (refl, (refl, (refl, (refl, (refl, (refl, (refl, (refl, passed))))))))))))

    -- a finish that gives
    gifts : All (drop 26 cases)
    gifts = (refl, (refl, (refl, (refl, (refl, (refl, (refl, (refl, (refl, (refl, (refl, (refl, (refl, (refl, listed))))))))))))))

    -- equal deadlines
    equals : All (drop 12 cases)
    equals = (refl, (refl, (refl, (refl, (refl, (refl, (refl, (refl, (refl, (refl, (refl, (refl, (refl, (refl, gifts))))))))))))))
