-- Beside the ledger, a count for each job: the ticks in which jobs of strictly later deadline, or idle, ran while it waited (its
-- inversion ticks; docs/SPECIFICATION.md §14.1). It is kept from the table, the calls and their answers alone. Definitions only.
-- Assumes nothing.
use Rattle.std.specs.Prelude.{ℕ, ◌+◌, Bool, true, false, ◌&&◌, ◌||◌, cond, List, [], ◌∷◌, ltb, eqb}
use Rattle.bounded.specs.Tests.{gate}
use Rattle.edf.specs.Demand.{TaskSet}
use Rattle.session.specs.Reading.{idle}
use Rattle.guarantee.specs.Ledger.{Call, arrive, choose, advance, finish, Event, End, none, at, Entry, Ledger, empty, kept}

-- an entry's deadline
abbrev pub due_of : TaskSet → Entry → ℕ
due_of τ e = e.arrival + τ.D e.row

-- a job waits until its entry has an end
abbrev pub unended : End → Bool
unended none = true
unended (at x) = false

-- the latest entry of a row has a deadline strictly later than d
unfoldable pub later_than : TaskSet → ℕ → ℕ → List Entry → Bool
later_than τ row d [] = false
later_than τ row d (e ∷ l) = cond (eqb e.row row) (ltb d (due_of τ e)) (later_than τ row d l)

-- idle is chosen, or a row whose job has a deadline strictly later than d
unfoldable pub overtakes : TaskSet → Ledger → ℕ → Bool
overtakes τ g d = eqb g.chosen idle || later_than τ g.chosen d g.entries

-- while the chosen one runs, the job of e waits, and its deadline is overtaken
unfoldable pub passed_over : TaskSet → Ledger → Entry → Bool
passed_over τ g e = unended e.end && overtakes τ g (due_of τ e)

-- the counts after n ticks, one to an entry and in the same order
unfoldable pub counted : TaskSet → Ledger → ℕ → List Entry → List ℕ → List ℕ
counted τ g n [] l = []
counted τ g n (e ∷ es) [] = []
counted τ g n (e ∷ es) (c ∷ l) = (c + gate (passed_over τ g e) n) ∷ counted τ g n es l

-- what an accepted call does to the counts, where the ledger was g before it
-- Arrive: the new entry has count 0.
-- Advance (n): each entry that is passed over gains n.
unfoldable pub recounted : TaskSet → Ledger → List ℕ → Call → List ℕ
recounted τ g l (arrive row) = 0 ∷ l
recounted τ g l (choose w) = l
recounted τ g l (advance n) = counted τ g n g.entries l
recounted τ g l finish = l

-- one event: a refused call changes nothing
unfoldable pub counts_after : TaskSet → Ledger → List ℕ → Event → List ℕ
counts_after τ g l e = cond (eqb e.answer.number 0) (recounted τ g l e.call) l

-- the counts after a list of events, beside the ledger
unfoldable pub counts_from : TaskSet → Ledger → List ℕ → List Event → List ℕ
counts_from τ g l [] = l
counts_from τ g l (e ∷ es) = counts_from τ (kept τ g e) (counts_after τ g l e) es

abbrev pub counts_of : TaskSet → List Event → List ℕ
counts_of τ es = counts_from τ empty [] es
