-- More laws of specs/Entry.antt: they rest on what a must-fail edit makes false. Assumes nothing.
use Rattle.workload.specs.Entry.{load_seed, load_none}

pub ruleset load_cases = (load_seed, load_none)
