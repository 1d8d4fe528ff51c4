-- All of a choice: what choose answers, and what led to it (docs/SPECIFICATION.md §5.4, §11). Definitions only. Assumes nothing.
use Rattle.std.specs.Prelude.{ℕ, not, cond, Option, Some, None, List}
use Rattle.session.specs.declared.Session.{Session}
use Rattle.session.specs.declared.Answer.TheVariants.{Chosen}
use Rattle.session.specs.declared.Outcome.{Outcome}
use Rattle.session.specs.Calls.{changed}
use Rattle.session.specs.Choose.{drawn, pick_of, unopposed, length_drawn, span_of, pick_used, used_of}
use Rattle.choice.specs.declared.Decision.{Decision}

-- which word decides between the candidates, counted from 1: the last that the pick uses; none where none decides
unfoldable pub decider_of : Session → List ℕ → Option ℕ
decider_of s l = cond (drawn s l) (Some (pick_used s l)) None

unfoldable pub decision_of : Session → List ℕ → Decision
decision_of s l = record {
  row = pick_of s l;
  span = span_of s l (pick_used s l) (pick_of s l);
  used = used_of s l;
  decider = decider_of s l;
  opposed = not (unopposed s (pick_of s l));
  timed = length_drawn s l (pick_used s l) (pick_of s l);
}

-- the outcome of a choice: it comes in force
unfoldable pub chosen_by : Session → Decision → Outcome
chosen_by s d = record {
  answer = Chosen d.row d.span;
  used = d.used;
  session = changed s s.clock s.jobs d.row d.span;
}
