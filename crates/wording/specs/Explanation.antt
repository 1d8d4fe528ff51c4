-- What an explanation holds (docs/EXPLANATIONS.md). Definitions only. Assumes nothing.
use Rattle.std.specs.Prelude.{ℕ, ◌-◌, ◌≤◌, ◌<◌, ◌^◌, ◌≡◌, false, List, [], ◌++◌, length, get_or, take, replicate, None, Option, Some}
use Rattle.wording.specs.declared.Held.{Held}
use Rattle.wording.specs.declared.Cause.{Cause}
use Rattle.wording.specs.declared.Cause.TheVariants.{Nothing}
use Rattle.wording.specs.declared.Parts.{Parts}

-- the waiting jobs in order; in a mixed session the brittle deadline; the chosen row, 16 for idle; the deciding word or none;
-- the span, and what set it
pub record Explanation : Type 0 where
  pub jobs : List Held
  pub brittle : Option ℕ
  pub chosen : ℕ
  pub decided : Option ℕ
  pub span : ℕ
  pub cause : Cause

-- ---- as the code has it: 16 places for jobs, of which the first `count` are taken

abbrev pub no_held : Held
no_held = record { row = 0; due = 0; budget = 0; candidate = false }

-- a list of jobs in 16 places
unfoldable pub laid : List Held → List Held
laid l = l ++ replicate (16 - length l) no_held

abbrev pub parts_of : Explanation → Parts
parts_of e = record {
  jobs = laid e.jobs;
  count = length e.jobs;
  brittle = e.brittle;
  chosen = e.chosen;
  decided = e.decided;
  span = e.span;
  cause = e.cause;
}

-- no parts, where there is no explanation
abbrev pub no_parts : Parts
no_parts = parts_of (record { jobs = []; brittle = None; chosen = 0; decided = None; span = 0; cause = Nothing })

-- what parts hold
abbrev pub held_in : Parts → Explanation
held_in p = record {
  jobs = take p.count p.jobs;
  brittle = p.brittle;
  chosen = p.chosen;
  decided = p.decided;
  span = p.span;
  cause = p.cause;
}

-- ---- what the code can hold: 16 jobs at most, and each number in 64 bits

pub record FitsJob (j : Held) : Type 0 where
  pub row : j.row < 2 ^ 64
  pub due : j.due < 2 ^ 64
  pub budget : j.budget < 2 ^ 64

pub record Fits (e : Explanation) : Type 0 where
  pub few : length e.jobs ≤ 16
  pub jobs : (i : ℕ) → i < length e.jobs → FitsJob (get_or e.jobs i no_held)
  pub brittle : (n : ℕ) → e.brittle ≡ Some n → n < 2 ^ 64
  pub chosen : e.chosen < 2 ^ 64
  pub decided : (n : ℕ) → e.decided ≡ Some n → n < 2 ^ 64
  pub span : e.span < 2 ^ 64
