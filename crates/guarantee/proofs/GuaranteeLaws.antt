-- More laws of specs/Guarantee.antt: they rest on what a must-fail edit makes false. Assumes nothing.
use Rattle.std.specs.Prelude.{ℕ, ◌≡◌, List, [], ◌∷◌, map}
use Rattle.table.specs.Rows.{tasks_of}
use Rattle.table.specs.Verdict.{opinion_of}
use Rattle.session.specs.declared.Session.{Session}
use Rattle.session.specs.declared.Arrival.{Arrival}
use Rattle.session.specs.Calls.{arrive_of}
use Rattle.session.specs.Batch.{after_all, answered_all}
use Rattle.session.specs.Start.{start_of}
use Rattle.guarantee.specs.Ledger.{arrive, Ledger, empty, kept, ledger_from, ledger_of}
use Rattle.guarantee.specs.Statement.{HostCall, single, batch, session_by, record_event, events_by, session_after, session_from, events_of, NoJobLate}
use Rattle.guarantee.specs.Good.{Good}
use Rattle.guarantee.specs.KeepsFresh.{good_fresh}
use Rattle.guarantee.specs.Keeps.{good_call, good_by, good_reached}
use Rattle.guarantee.specs.Ties.{Tied, tied_fresh}
use Rattle.guarantee.proofs.TiesLaws.{tied_call, tied_timely}
use Rattle.guarantee.specs.After.{ledger_more, event_of}

-- the ledger follows the session over a batch,
tied_all : (l : List ℕ) (g : Ledger) (s : Session) → Good l s → Tied l g s → (rs : List Arrival)
    → Tied l (ledger_from (tasks_of l) g (map record_event (answered_all s rs))) (after_all s rs)
unfolding ledger_from after_all answered_all
tied_all l g s good tied [] = tied
tied_all l g s good tied (a ∷ rs) =
    tied_all l (kept (tasks_of l) g (event_of s (arrive a.row))) (arrive_of s a.row).session (good_call l s good (arrive a.row))
    (tied_call l g s good tied (arrive a.row)) rs

tied_by : (l : List ℕ) (g : Ledger) (s : Session) → Good l s → Tied l g s → (c : HostCall)
    → Tied l (ledger_from (tasks_of l) g (events_by s c)) (session_by s c)
unfolding ledger_from
tied_by l g s good tied (single c) = tied_call l g s good tied c
tied_by l g s good tied (batch rs) = tied_all l g s good tied rs

-- and over a list of calls
tied_after : (l : List ℕ) (g : Ledger) (s : Session) → Good l s → Tied l g s → (calls : List HostCall)
    → Tied l (ledger_from (tasks_of l) g (events_of s calls)) (session_after s calls)
unfolding ledger_from events_of session_after
tied_after l g s good tied [] = tied
tied_after l g s good tied (c ∷ calls) =
    rw (ledger_more (tasks_of l) g (events_by s c) (events_of (session_by s c) calls))
    (tied_after l (ledger_from (tasks_of l) g (events_by s c)) (session_by s c) (good_by l s good c) (tied_by l g s good tied c) calls)

pub tied_reached : (l : List ℕ) → (opinion_of l).number ≡ 0 → (s₀ : Session) (calls : List HostCall)
    → Tied l (ledger_of (tasks_of l) (events_of (start_of s₀ l) calls)) (session_from s₀ l calls)
tied_reached l e s₀ calls = tied_after l empty (start_of s₀ l) (good_fresh l e s₀) (tied_fresh l e s₀) calls

-- NO JOB IS LATE
pub no_job_late : NoJobLate
no_job_late l e s₀ calls = tied_timely l _ _ (good_reached l e s₀ calls) (tied_reached l e s₀ calls)
