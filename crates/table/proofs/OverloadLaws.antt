-- More laws of specs/Overload.antt: they rest on what a must-fail edit makes false. Assumes nothing.
use Rattle.table.specs.Overload.{clear_start, clear_next, clear_falls, clear_over, clear_end}

pub ruleset overload_laws = (clear_start, clear_next, clear_falls, clear_over, clear_end)
