-- Jobs of several rows that arrive on one tick, in one call (docs/SPECIFICATION.md §5.9). Definitions only. Assumes nothing.
use Rattle.std.specs.Prelude.{List, [], ◌∷◌}
use Rattle.session.specs.declared.Session.{Session}
use Rattle.session.specs.declared.Arrival.{Arrival}
use Rattle.session.specs.Calls.{Shown, shown, arrive_of}

-- a record with an answer in its place; its row stays
abbrev pub answered : Arrival → Shown → Arrival
answered a n = record { row = a.row; number = n.number; first = n.first; second = n.second }

-- the session after all of them, one by one in list order, accepted or refused
unfoldable pub after_all : Session → List Arrival → Session
after_all s [] = s
after_all s (a ∷ l) = after_all (arrive_of s a.row).session l

-- the records, each with what its arrival answers in its turn
unfoldable pub answered_all : Session → List Arrival → List Arrival
answered_all s [] = []
answered_all s (a ∷ l) = answered a (shown (arrive_of s a.row).answer) ∷ answered_all (arrive_of s a.row).session l
