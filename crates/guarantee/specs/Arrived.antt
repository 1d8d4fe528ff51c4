-- The arrivals by which jobs are ordered (docs/SPECIFICATION.md §5.4): of equal deadlines the greater D came first, and from a
-- fresh session they are the ledger's. Assumes nothing.
use Rattle.session.specs.Before.{came_greater}
use Rattle.guarantee.specs.Statement.{GreaterFirst}

pub greater_first : GreaterFirst
greater_first = came_greater
