-- More laws of specs/Least.antt: they rest on what a must-fail edit makes false. Assumes nothing.
use Rattle.bounded.specs.Least.{passed_start, passed_next, first_found, first_none}

pub ruleset first_laws = (passed_start, passed_next, first_found, first_none)
