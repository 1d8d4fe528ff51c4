-- More laws of specs/Line.antt: they rest on what a must-fail edit makes false. Assumes nothing.
use Rattle.workload.specs.Line.{ready_start, ready_next, ready_found, ready_none}

pub ruleset ready_laws = (ready_start, ready_next, ready_found, ready_none)
