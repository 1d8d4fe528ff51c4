use borrow.Author.Rules.{rules}
use Rattle.explain.specs.Entry.{text_laws, tell_cases}
use Rattle.explain.proofs.tell_by.Goals as goal

pub returns-then-span-gt0 : goal.returns-then-span-gt0
returns-then-span-gt0 c = search (rules, tell_cases)

pub returns-then-n-lt-LEAST : goal.returns-then-n-lt-LEAST
returns-then-n-lt-LEAST c = search (rules, tell_cases)

pub put_text-e-requires : goal.put_text-e-requires
put_text-e-requires c = search (rules, text_laws)

pub returns : goal.returns
returns c = search (rules, tell_cases)
