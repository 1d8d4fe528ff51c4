-- What the host sees of an opinion, of a start and of an outcome, in numbers (docs/SPECIFICATION.md §9). Assumes nothing.
use Rattle.std.specs.Prelude.{◌≡◌, Result, Ok, Err, List, ℤ, pos, replicate}
use Rattle.std.proofs.Common.{sym, ap, ◌∙◌}
use Rattle.table.specs.declared.Numbers as numbers
use Rattle.table.specs.declared.Judgement as table
use Rattle.table.specs.declared.Refusal.{Refusal}
use Rattle.table.specs.Verdict.{Opinion}
use Rattle.table.specs.Opinion as opinion
use Rattle.session.specs.declared.Numbers.{Numbers}
use Rattle.session.specs.declared.Outcome.{Outcome}
use Rattle.session.specs.Calls.{shown, Shows}
use Rattle.lent.specs.declared.Reply as lending
use Rattle.lent.specs.Reply as lent
use Rattle.host.specs.declared.Reply.{Reply}
use Rattle.host.specs.declared.Judgement.{Judgement}

-- ---- definitions

-- the reply of a lent call in numbers: its number, words used and two values
unfoldable pub in_numbers : lending.Reply → Reply
in_numbers r = record {
  number = (shown r.answer).number;
  used = r.used;
  first = (shown r.answer).first;
  second = (shown r.answer).second;
}

-- and of an outcome
abbrev pub reply_of : Outcome → Reply
reply_of o = in_numbers (lent.reply_of o)

-- an opinion's number and two values; it uses no word
abbrev pub answered : Opinion → Reply
answered o = record { number = o.number; used = 0; first = o.first; second = o.second }

-- what a start says: the number and values of its opinion
unfoldable pub start_reply : Result table.Judgement Refusal → Reply
start_reply o = answered (opinion.shown_of o)

-- an opinion, with V of each row
abbrev pub judgement_of : Opinion → Judgement
judgement_of o = record { number = o.number; first = o.first; second = o.second; budgets = o.budgets }

-- ---- the code

pub in_numbers_is : (r : lending.Reply) (n : Numbers) → Shows (shown r.answer) n
    → record { number = n.number; used = r.used; first = n.first; second = n.second } ≡ in_numbers r
unfolding in_numbers
in_numbers_is r n h = rw (h.number, h.first, h.second)

pub start_reply_lem : (o : Result table.Judgement Refusal) (n : numbers.Numbers) → opinion.Shows o n
    → record { number = n.number; used = 0; first = n.first; second = n.second } ≡ start_reply o
unfolding start_reply
start_reply_lem o n h = rw (h.number, h.first, h.second)

pub opened : (o : Result table.Judgement Refusal) (p : Opinion) (r : Reply) → opinion.shown_of o ≡ p → r ≡ start_reply o → r ≡ answered p
unfolding start_reply
opened o p r h e = e ∙ ap answered h

module _ (o : Result table.Judgement Refusal) where
  pub budgets_admitted : (j : table.Judgement) → o ≡ Ok j → j.budgets ≡ (opinion.shown_of o).budgets
  budgets_admitted j e = ap (λ (x : Result table.Judgement Refusal). (opinion.shown_of x).budgets) (sym e)

  pub budgets_refused : (r : Refusal) → o ≡ Err r → replicate 16 (pos 0) ≡ (opinion.shown_of o).budgets
  budgets_refused r e = sym (opinion.refused_budgets r) ∙ ap (λ (x : Result table.Judgement Refusal). (opinion.shown_of x).budgets) (sym e)

  pub judgement_is : (n : numbers.Numbers) (b : List ℤ) → opinion.Shows o n → b ≡ (opinion.shown_of o).budgets
      → record { number = n.number; first = n.first; second = n.second; budgets = b } ≡ judgement_of (opinion.shown_of o)
  judgement_is n b g e = rw e (sym (ap judgement_of (opinion.shows_of o n g)))

pub ruleset budgets_cases = (budgets_admitted, budgets_refused)
