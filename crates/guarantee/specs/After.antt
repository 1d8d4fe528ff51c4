-- What each call keeps holds after every list of calls, batches among them: of the ledger, its counts and the session
-- (docs/SPECIFICATION.md §6.2, §14.1). Assumes nothing.
use Rattle.std.specs.Prelude.{◌≡◌, refl}
use mathlib.Core.List.{List, [], ◌∷◌, ◌++◌}
use Rattle.edf.specs.Demand.{TaskSet}
use Rattle.session.specs.declared.Session.{Session}
use Rattle.session.specs.Calls.{shown}
use Rattle.guarantee.specs.Ledger.{Call, Event, Ledger, kept, ledger_from}
use Rattle.guarantee.specs.Statement.{outcome_of}

-- the ledger of two lists of events is kept from the second after the first, and so are the counts
pub ledger_more : (τ : TaskSet) (g : Ledger) (x y : List Event) → ledger_from τ g (x ++ y) ≡ ledger_from τ (ledger_from τ g x) y
unfolding ledger_from
ledger_more τ g [] y = refl
ledger_more τ g (e ∷ x) y = ledger_more τ (kept τ g e) x y

-- a call on s with its answer, as the ledger notes it
abbrev pub event_of : Session → Call → Event
event_of s c = record { call = c; answer = shown (outcome_of s c).answer }
