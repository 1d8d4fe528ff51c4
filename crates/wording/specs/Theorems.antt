-- The proofs of what `Statement` says. Assumes nothing.
use Rattle.std.specs.Prelude.{ℕ, suc, ◌+◌, ◌*◌, ◌≤◌, ◌<◌, ◌^◌, ◌≡◌, refl, cond, List, [], ◌∷◌, eqb, length, get_or, None, Option, Some}
use Rattle.std.proofs.Common.{arith, length-append, eqb-true}
use Rattle.bounded.specs.Tests.{both}
use Rattle.decimal.specs.Decimal.{decimal, decimal_in, decimal_twenty}
use Rattle.wording.specs.declared.Held.{Held}
use Rattle.wording.specs.Explanation.{no_held, FitsJob}
use Rattle.wording.specs.Phrases as p
use Rattle.wording.specs.Text.{job_text, jobs_text, brittle_text, chosen_text, decided_text, text_of}
use Rattle.wording.specs.Pieces.{candidate_short, cause_short}
use Rattle.wording.specs.Statement.{TextShort}

-- ---- each part of the text is short

-- the words after a budget of 0 take more than the digits of another
budget_short : (n : ℕ) → n < 2 ^ 64 → length (decimal n) + length (cond (eqb n 0) p.holds []) ≤ 25
unfolding decimal decimal_in
budget_short n h =
    both (eqb n 0)
    (λ e. let z : n ≡ 0 = eqb-true n 0 e in rw z (omega arith))
    (λ e. rw e (omega (arith, decimal_twenty n h)))

job_short : (j : Held) → FitsJob j → length (job_text j) ≤ 106
unfolding job_text
job_short j f =
    simp length-append
    (omega (arith, decimal_twenty j.row f.row, decimal_twenty j.due f.due, budget_short j.budget f.budget, candidate_short j.candidate))

jobs_short : (l : List Held) → ((i : ℕ) → i < length l → FitsJob (get_or l i no_held)) → length (jobs_text l) ≤ 106 * length l
unfolding jobs_text
jobs_short [] f = omega arith
jobs_short (j ∷ l) f = rw length-append (omega (arith, job_short j (f 0 (omega arith)), jobs_short l (λ i h. f (suc i) (omega arith))))

brittle_short : (o : Option ℕ) → ((n : ℕ) → o ≡ Some n → n < 2 ^ 64) → length (brittle_text o) ≤ 90
brittle_short None f = omega arith
brittle_short (Some n) f = simp length-append (omega (arith, decimal_twenty n (f n refl)))

chosen_short : (c : ℕ) → c < 2 ^ 64 → length (chosen_text c) ≤ 32
unfolding chosen_text
chosen_short c h = both (eqb c 16) (λ e. rw e (omega arith)) (λ e. rw e (simp length-append (omega (arith, decimal_twenty c h))))

decided_short : (o : Option ℕ) → ((n : ℕ) → o ≡ Some n → n < 2 ^ 64) → length (decided_text o) ≤ 32
decided_short None f = omega arith
decided_short (Some n) f = simp length-append (omega (arith, decimal_twenty n (f n refl)))

-- ---- and so is the whole

pub text_short : TextShort
unfolding text_of
text_short e f =
    simp length-append
    (omega (
      arith,
      decimal_twenty (length e.jobs) (omega (arith, f.few)),
      jobs_short e.jobs f.jobs,
      brittle_short e.brittle f.brittle,
      chosen_short e.chosen f.chosen,
      decided_short e.decided f.decided,
      decimal_twenty e.span f.span,
      cause_short e.cause,
    ))
