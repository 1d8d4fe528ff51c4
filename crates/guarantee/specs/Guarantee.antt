-- The guarantee (docs/SPECIFICATION.md §6.2): the theorems of Statement.antt but those in Keeps.antt, Budget.antt, Arrived.antt,
-- Tight.antt and Mixed.antt, and in proofs/, where `no_job_late` stands. Assumes nothing.
use Rattle.std.specs.Prelude.{refl, List, [], ◌∷◌}
use Rattle.std.proofs.Common.{sym, ap, ◌∙◌}
use Rattle.table.specs.Verdict.{Opinion}
use Rattle.table.specs.Opinion.{shown_one}
use Rattle.table.proofs.TheoremsLaws as tables
use Rattle.session.specs.Calls.{shown, arrive_of}
use Rattle.session.specs.Batch.{after_all, answered_all}
use Rattle.session.specs.Start.{fresh_of, start_fresh, start_same}
use Rattle.guarantee.specs.Ledger.{arrive, Event}
use Rattle.guarantee.specs.Statement.{session_after, events_of, StartIsOpinion, OneByOne, OverloadDeserved, Deterministic, DeterministicAfter}

-- A START SAYS WHAT THE OPINION SAYS
pub start_is_opinion : StartIsOpinion
start_is_opinion s₀ l j r e h = record {
  opinion = shown_one r.opinion j (h.opinion ∙ sym e);
  fresh = λ z. h.session ∙ start_fresh s₀ l (sym (ap (λ (o : Opinion). o.number) e) ∙ z) ∙ ap (λ (o : Opinion). fresh_of l o.first) (sym e);
  same = λ ne. h.session ∙ start_same s₀ l (λ z. ne (ap (λ (o : Opinion). o.number) e ∙ z));
}

-- ONE BY ONE
pub one_by_one : OneByOne
unfolding after_all answered_all session_after events_of
one_by_one s [] = (refl, refl)
one_by_one s (a ∷ l) =
    let r = one_by_one (arrive_of s a.row).session l in
    (r.0, ap (λ (x : List Event). record { call = arrive a.row; answer = shown (arrive_of s a.row).answer } ∷ x) r.1)

pub overload_deserved : OverloadDeserved
overload_deserved = tables.overload_deserved

pub deterministic : Deterministic
deterministic s s' c c' e f = cc

pub deterministic_after : DeterministicAfter
deterministic_after s s' calls calls' e f = (cc, cc)
