-- When a session is sound (docs/SPECIFICATION.md §5.2). Assumes nothing.
use Rattle.std.specs.Prelude.{ℕ, ◌+◌, Bool, not, ◌&&◌, ◌||◌, leb, ltb, eqb}
use Rattle.bounded.specs.All.{all_to}
use Rattle.table.specs.Rows.{horizon}
use Rattle.table.specs.Verdict.{opinion_of}
use Rattle.session.specs.declared.Session.{Session}
use Rattle.session.specs.Reading.{idle, clock_end, job_at, rows_of, tasks, waits, ahead, most_budget}

-- the opinion on its rows, 16 at most, is that they are admitted as the kind it names
unfoldable pub sound_rows : Session → Bool
sound_rows s = leb s.count 16 && (eqb (opinion_of (rows_of s)).number 0 && eqb (opinion_of (rows_of s)).first s.kind)

-- a waiting job: remaining ≤ C, deadline = earliest next arrival − T + D, clock < deadline, budget ≤ D − C (0 where its row
-- is brittle)
unfoldable pub sound_waiting : Session → ℕ → Bool
sound_waiting s i =
    leb (job_at s i).left ((tasks s).C i)
    && (eqb ((job_at s i).due + (tasks s).T i) ((job_at s i).next + (tasks s).D i)
    && (ltb s.clock (job_at s i).due && leb (job_at s i).budget (most_budget (tasks s) i)))

-- each row: earliest next arrival ≤ clock + T, and its job, if one waits, as above
unfoldable pub sound_job : Session → ℕ → Bool
sound_job s i = leb (job_at s i).next (s.clock + (tasks s).T i) && (not (waits s i) || sound_waiting s i)

-- whether c is idle, or a waiting row with at least n remaining ticks
unfoldable pub runs : Session → ℕ → ℕ → Bool
runs s c n = eqb c idle || (ltb c s.count && (waits s c && leb n (job_at s c).left))

-- n is not more than the budget of j, where j loses budget while c runs
unfoldable pub affords : Session → ℕ → ℕ → ℕ → Bool
affords s c n j = not (ahead s c j) || leb n (job_at s j).budget

-- a choice in force names a waiting row or idle, with 1 to 1,000,000 ticks left, not more than its remaining ticks nor
-- than the budget of any waiting job of a strictly earlier deadline (of any waiting job, for idle)
unfoldable pub sound_choice : Session → Bool
sound_choice s =
    eqb s.span 0 || (leb s.span horizon && (runs s s.chosen s.span && all_to (affords s s.chosen s.span) s.count))

unfoldable pub sound : Session → Bool
sound s = sound_rows s && (leb s.clock clock_end && (all_to (sound_job s) s.count && sound_choice s))
