-- What was read has 16 jobs at most.
use Rattle.std.proofs.Common.{rules}
use Rattle.reader.specs.Theorems.{reading_few}
use Rattle.parts.proofs.main.Goals as goal

pub put_parts-requires : goal.put_parts-requires
put_parts-requires c = search (rules, reading_few)
