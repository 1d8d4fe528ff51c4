-- More laws of specs/After.antt: they rest on what a must-fail edit makes false. Assumes nothing.
use Rattle.std.specs.Prelude.{ℕ, ◌≡◌, refl}
use mathlib.Core.List.{List, [], ◌∷◌, ◌++◌, map}
use Rattle.edf.specs.Demand.{TaskSet}
use Rattle.session.specs.declared.Session.{Session}
use Rattle.session.specs.declared.Arrival.{Arrival}
use Rattle.session.specs.Calls.{arrive_of}
use Rattle.session.specs.Batch.{after_all, answered_all}
use Rattle.guarantee.specs.Ledger.{Call, arrive, Event, Ledger, kept, ledger_from}
use Rattle.guarantee.specs.Statement.{outcome_of, HostCall, single, batch, session_by, record_event, events_by, session_after, events_of}
use Rattle.guarantee.specs.History.{counts_after, counts_from}
use Rattle.guarantee.specs.After.{ledger_more, event_of}

counts_more : (τ : TaskSet) (g : Ledger) (cs : List ℕ) (x y : List Event)
    → counts_from τ g cs (x ++ y) ≡ counts_from τ (ledger_from τ g x) (counts_from τ g cs x) y
unfolding ledger_from counts_from
counts_more τ g cs [] y = refl
counts_more τ g cs (e ∷ x) y = counts_more τ (kept τ g e) (counts_after τ g cs e) x y

-- P is what each call keeps
module _ (τ : TaskSet) (P : Ledger → List ℕ → Session → Type 0)
    (step : (g : Ledger) (cs : List ℕ) (s : Session) → P g cs s → (c : Call)
    → P (kept τ g (event_of s c)) (counts_after τ g cs (event_of s c)) (outcome_of s c).session) where
  after_all_lem : (g : Ledger) (cs : List ℕ) (s : Session) → P g cs s → (rs : List Arrival)
      → P (ledger_from τ g (map record_event (answered_all s rs))) (counts_from τ g cs (map record_event (answered_all s rs))) (after_all s rs)
  unfolding ledger_from counts_from after_all answered_all
  after_all_lem g cs s p [] = p
  after_all_lem g cs s p (a ∷ rs) =
      after_all_lem (kept τ g (event_of s (arrive a.row))) (counts_after τ g cs (event_of s (arrive a.row))) (arrive_of s a.row).session
      (step g cs s p (arrive a.row)) rs

  after_by : (g : Ledger) (cs : List ℕ) (s : Session) → P g cs s → (c : HostCall)
      → P (ledger_from τ g (events_by s c)) (counts_from τ g cs (events_by s c)) (session_by s c)
  unfolding ledger_from counts_from
  after_by g cs s p (single c) = step g cs s p c
  after_by g cs s p (batch rs) = after_all_lem g cs s p rs

  pub after_calls : (g : Ledger) (cs : List ℕ) (s : Session) → P g cs s → (calls : List HostCall)
      → P (ledger_from τ g (events_of s calls)) (counts_from τ g cs (events_of s calls)) (session_after s calls)
  unfolding ledger_from counts_from events_of session_after
  after_calls g cs s p [] = p
  after_calls g cs s p (c ∷ calls) =
      rw (ledger_more τ g (events_by s c) (events_of (session_by s c) calls), counts_more τ g cs (events_by s c) (events_of (session_by s c) calls))
      (after_calls (ledger_from τ g (events_by s c)) (counts_from τ g cs (events_by s c)) (session_by s c) (after_by g cs s p c) calls)
