-- What the host sees of an outcome (docs/SPECIFICATION.md §5.8). Assumes nothing.
use Rattle.session.specs.declared.Outcome.{Outcome}
use Rattle.lent.specs.declared.Reply.{Reply}

abbrev pub reply_of : Outcome → Reply
reply_of o = record { answer = o.answer; used = o.used }
