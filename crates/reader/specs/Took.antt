-- What the functions of src/parts.rt read at a place: a part, its numbers cut to 64 bits, and the place past it. Definitions only.
-- Assumes nothing.
use Rattle.std.specs.Prelude.{ℕ, ◌≡◌, List, map, drop, Option}
use Rattle.wording.specs.declared.Held.{Held}
use Rattle.wording.specs.Explanation.{laid}
use Rattle.reader.specs.Reading.{number_in, after_digits, Part, job_in, jobs_in, brittle_in, chosen_in, decided_in}
use Rattle.reader.specs.Fitted.{cut, cut_job, cut_optional}

-- v is the part p, and what follows it stands at place n of the bytes l
pub record Took {A : Type 0} (p : Part A) (l : List ℕ) (v : A) (n : ℕ) : Type 0 where
  pub part : v ≡ p.part
  pub rest : drop n l ≡ p.rest

unfoldable pub number_at : List ℕ → Part ℕ
number_at l = record { part = cut (number_in l); rest = after_digits l }

unfoldable pub job_at : List ℕ → Part Held
job_at l = record { part = cut_job (job_in l).part; rest = (job_in l).rest }

-- in 16 places
unfoldable pub jobs_at : ℕ → List ℕ → Part (List Held)
jobs_at n l = record { part = laid (map cut_job (jobs_in n l).part); rest = (jobs_in n l).rest }

unfoldable pub brittle_at : List ℕ → Part (Option ℕ)
brittle_at l = record { part = cut_optional (brittle_in l).part; rest = (brittle_in l).rest }

unfoldable pub chosen_at : List ℕ → Part ℕ
chosen_at l = record { part = cut (chosen_in l).part; rest = (chosen_in l).rest }

unfoldable pub decided_at : List ℕ → Part (Option ℕ)
decided_at l = record { part = cut_optional (decided_in l).part; rest = (decided_in l).rest }
