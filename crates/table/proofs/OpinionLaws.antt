-- More laws of specs/Opinion.antt: they rest on what a must-fail edit makes false. Assumes nothing.
use Rattle.table.specs.Opinion.{say_length, say_row, say_fit, say_judged}

pub ruleset opinion_cases = (say_length, say_row, say_fit, say_judged)
