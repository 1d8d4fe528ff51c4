-- Each part of a text reads back as it was written, and so does the whole (docs/EXPLANATIONS.md). Assumes nothing.
use Rattle.std.specs.Prelude.{ℕ, ◌≡◌, refl, Bool, true, false, cond, List, [], ◌∷◌, ◌++◌, eqb, length, None, Option, Some}
use Rattle.std.proofs.Common.{sym, ap, append_assoc, eqb-true}
use Rattle.bounded.specs.Tests.{both, and-true}
use Rattle.decimal.specs.Decimal.{decimal}
use Rattle.decimal.specs.Number.{is_digit, all_digits}
use Rattle.decimal.specs.RoundTrip.{decimal_digits, value_back}
use Rattle.wording.specs.declared.Held.{Held}
use Rattle.wording.specs.declared.Cause.{Cause}
use Rattle.wording.specs.declared.Cause.TheVariants.{Remaining, Word, NoWord, Nothing}
use Rattle.wording.specs.Explanation.{Explanation}
use Rattle.wording.specs.Phrases as p
use Rattle.wording.specs.Text.{job_text, jobs_text, brittle_text, chosen_text, decided_text, cause_text, text_of}
use Rattle.reader.specs.Reading.{digits, after_digits, number_in, past_holds_lem, candidate_in, job_in, jobs_in, brittle_in, chosen_in, decided_in, cause_in, explanation_from, explanation_in}

-- ---- a number in front of a byte that is no digit

digits_of : (l : List ℕ) (b : ℕ) (r : List ℕ) → all_digits l ≡ true → is_digit b ≡ false → digits (l ++ b ∷ r) ≡ l
unfolding digits all_digits
digits_of [] b r e f = simp f
digits_of (a ∷ l) b r e f = let q = and-true (is_digit a) (all_digits l) e in simp (q.0, digits_of l b r q.1 f)

after_of : (l : List ℕ) (b : ℕ) (r : List ℕ) → all_digits l ≡ true → is_digit b ≡ false → after_digits (l ++ b ∷ r) ≡ b ∷ r
unfolding after_digits all_digits
after_of [] b r e f = simp f
after_of (a ∷ l) b r e f = let q = and-true (is_digit a) (all_digits l) e in simp (q.0, after_of l b r q.1 f)

number_back : (n b : ℕ) (r : List ℕ) → is_digit b ≡ false → number_in (decimal n ++ b ∷ r) ≡ n
number_back n b r f = rw (digits_of (decimal n) b r (decimal_digits n) f) (value_back n)

after_back : (n b : ℕ) (r : List ℕ) → is_digit b ≡ false → after_digits (decimal n ++ b ∷ r) ≡ b ∷ r
after_back n b r f = after_of (decimal n) b r (decimal_digits n) f

-- ---- a job

candidate_back : (c : Bool) (t : List ℕ) → candidate_in (cond c p.candidate p.not_candidate ++ t) ≡ record { part = c; rest = t }
unfolding candidate_in
candidate_back true t = refl
candidate_back false t = refl

-- what stands after the budget
abbrev end_of : Bool → Bool → List ℕ → List ℕ
end_of z c t = cond z p.holds [] ++ (cond c p.candidate p.not_candidate ++ t)

end_back : (z c : Bool) (t : List ℕ) → candidate_in (past_holds_lem (end_of z c t)) ≡ record { part = c; rest = t }
unfolding past_holds_lem
end_back true c t = candidate_back c t
end_back false true t = candidate_back true t
end_back false false t = candidate_back false t

-- no digit follows the budget
budget_back : (n : ℕ) (z c : Bool) (t : List ℕ) → (number_in (decimal n ++ end_of z c t) ≡ n) × (after_digits (decimal n ++ end_of z c t) ≡ end_of z c t)
budget_back n true c t = (number_back n 32 _ refl, after_back n 32 _ refl)
budget_back n false true t = (number_back n 58 _ refl, after_back n 58 _ refl)
budget_back n false false t = (number_back n 58 _ refl, after_back n 58 _ refl)

job_back : (j : Held) (t : List ℕ) → job_in (job_text j ++ t) ≡ record { part = j; rest = t }
unfolding job_in job_text
job_back j t =
    let b = budget_back j.budget (eqb j.budget 0) j.candidate t in
    simp append_assoc
    (rw (
      number_back j.row 44 _ refl,
      after_back j.row 44 _ refl,
      number_back j.due 44 _ refl,
      after_back j.due 44 _ refl,
      b.0,
      b.1,
      end_back (eqb j.budget 0) j.candidate t,
    ))

jobs_back : (js : List Held) (t : List ℕ) → jobs_in (length js) (jobs_text js ++ t) ≡ record { part = js; rest = t }
unfolding jobs_in jobs_text
jobs_back [] t = refl
jobs_back (j ∷ l) t = rw (append_assoc (job_text j) (jobs_text l) t, job_back j (jobs_text l ++ t), jobs_back l t)

-- ---- the other parts

-- the line that follows begins with C
brittle_back : (b : Option ℕ) (t : List ℕ) → brittle_in (brittle_text b ++ 67 ∷ t) ≡ record { part = b; rest = 67 ∷ t }
unfolding brittle_in
brittle_back None t = refl
brittle_back (Some d) t = simp append_assoc (rw (number_back d 58 _ refl, after_back d 58 _ refl))

-- a comma follows
chosen_back : (c : ℕ) (t : List ℕ) → chosen_in (chosen_text c ++ 44 ∷ t) ≡ record { part = c; rest = 44 ∷ t }
unfolding chosen_in chosen_text
chosen_back c t =
    both (eqb c 16)
    (λ e. simp e (ap (λ (x : ℕ). record { part = x; rest = 44 ∷ t }) (sym (eqb-true c 16 e))))
    (λ e. simp (e, append_assoc) (rw (number_back c 44 t refl, after_back c 44 t refl)))

decided_back : (w : Option ℕ) (t : List ℕ) → decided_in (decided_text w ++ t) ≡ record { part = w; rest = t }
unfolding decided_in
decided_back None t = refl
decided_back (Some n) t = simp append_assoc (rw (number_back n 46 _ refl, after_back n 46 _ refl))

cause_back : (c : Cause) → cause_in (cause_text c) ≡ c
unfolding cause_in
cause_back Remaining = refl
cause_back Word = refl
cause_back NoWord = refl
cause_back Nothing = refl

-- ---- one part after another

brittle_next : (b : Option ℕ) (c : ℕ) (t : List ℕ) → brittle_in (brittle_text b ++ (chosen_text c ++ t)) ≡ record { part = b; rest = chosen_text c ++ t }
unfolding chosen_text
brittle_next b c t = both (eqb c 16) (λ e. simp e (brittle_back b _)) (λ e. simp e (brittle_back b _))

chosen_next : (c : ℕ) (w : Option ℕ) (t : List ℕ) → chosen_in (chosen_text c ++ (decided_text w ++ t)) ≡ record { part = c; rest = decided_text w ++ t }
chosen_next c None t = chosen_back c _
chosen_next c (Some n) t = chosen_back c _

span_next : (n : ℕ) (c : Cause) → (number_in (decimal n ++ cause_text c) ≡ n) × (after_digits (decimal n ++ cause_text c) ≡ cause_text c)
span_next n Remaining = (number_back n 58 _ refl, after_back n 58 _ refl)
span_next n Word = (number_back n 58 _ refl, after_back n 58 _ refl)
span_next n NoWord = (number_back n 58 _ refl, after_back n 58 _ refl)
span_next n Nothing = (number_back n 58 _ refl, after_back n 58 _ refl)

pub read_back : (e : Explanation) → explanation_in (text_of e) ≡ e
unfolding explanation_in explanation_from text_of
read_back e =
    let s = span_next e.span e.cause in
    simp append_assoc
    (rw (
      number_back (length e.jobs) 46 _ refl,
      after_back (length e.jobs) 46 _ refl,
      jobs_back e.jobs _,
      brittle_next e.brittle e.chosen _,
      chosen_next e.chosen e.decided _,
      decided_back e.decided _,
      s.0,
      s.1,
      cause_back e.cause,
    ))
