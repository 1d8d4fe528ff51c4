-- The budget that a job arrives with (docs/SPECIFICATION.md §5.3): it is not cut, and never below V. Assumes nothing.
use Rattle.std.specs.Prelude.{ℕ, ◌+◌, ◌-◌, ◌≤◌, ◌<◌, ◌≡◌, refl, true, List, ℤ, pos, ◌-ℤ◌, length}
use Rattle.std.proofs.Common.{sym, ap, subst, ◌∙◌, mul-le-mul_right, arith}
use Rattle.std.proofs.Math.Logic.{dite}
use Rattle.std.proofs.Math.Decide.{dec_lt}
use Rattle.bounded.specs.Signed.{difference_is}
use Rattle.edf.specs.Jobs.{jobs_by_lem}
use Rattle.edf.proofs.JobsLaws.{jobs_after, jobs_last}
use Rattle.edf.specs.State.{soonest, to_come}
use Rattle.table.specs.Rows.{tasks_of}
use Rattle.table.specs.Budgets.{budget_of}
use Rattle.session.specs.declared.Session.{Session}
use Rattle.session.specs.declared.Job.{Job}
use Rattle.session.specs.declared.Answer.{Answer}
use Rattle.session.specs.Reading.{job_at, tasks, natural, state_of}
use Rattle.session.specs.Sound.{sound}
use Rattle.session.specs.Calls.{shown, arrival_budget, new_budget, arrive_of}
use Rattle.session.specs.Facts.{facts_of, facts_fit}
use Rattle.session.specs.Brittle.{rows_count}
use Rattle.session.specs.Arrive.{asked, new_whole, new_from, arrived_at}
use Rattle.guarantee.specs.Ledger.{arrive}
use Rattle.guarantee.specs.Statement.{session_from, BudgetWhole, NeverBelowV, SoundNeverBelowV, DeadlinesCounted}
use Rattle.guarantee.specs.Good.{Good, good_places}
use Rattle.guarantee.specs.Effects.{Effect, refusal, arrived, effect_of}
use Rattle.guarantee.specs.Keeps.{good_reached}

-- a job that arrives has the new budget, in a row of the table
of_effect : (s : Session) → s.count ≤ length s.jobs → (tasks s).rows ≡ s.count → (row : ℕ) {s' : Session} {a : Answer}
    → Effect s (arrive row) s' a → (shown a).number ≡ 0 → ((job_at s' row).budget ≡ new_budget s row) × (row < (tasks s).rows)
of_effect s places rows row (refusal a six) z = absurd (omega arith)
of_effect s places rows row (arrived k known ready) z = (ap (λ (j : Job). j.budget) (arrived_at s row (omega arith)), omega arith)

-- over the integers
whole_is : (s : Session) (row : ℕ) → new_budget s row + (tasks s).C row + asked s row ≡ (tasks s).D row → arrival_budget s row ≡ pos (new_budget s row)
unfolding arrival_budget
whole_is s row e =
    ap (λ (z : ℤ). z -ℤ pos (asked s row)) (difference_is (new_budget s row + asked s row) ((tasks s).C row) ((tasks s).D row) (omega arith))
    ∙ difference_is (new_budget s row) (asked s row) (new_budget s row + asked s row) refl

-- THE BUDGET OF A NEW JOB IS NOT CUT
pub budget_whole : BudgetWhole
budget_whole s e jobs words row firm z =
    let f = facts_of s e in
    let rows = rows_count s f.few words in
    let r = of_effect s (omega (arith, f.few)) rows row (effect_of s e (arrive row)) z in
    ap pos r.0 ∙ sym (whole_is s row (new_whole s row f r.1 rows firm))

from_sound : (s : Session) → sound s ≡ true → s.count ≤ length s.jobs → (tasks s).rows ≡ s.count
    → (row : ℕ) → (shown (arrive_of s row).answer).number ≡ 0
    → natural (budget_of (tasks s) row) ≤ (job_at (arrive_of s row).session row).budget
from_sound s e places rows row z =
    let r = of_effect s places rows row (effect_of s e (arrive row)) z in
    omega (arith, r.0, new_from s row (facts_of s e) r.1 rows)

-- A NEW JOB'S BUDGET IS NEVER BELOW V
pub sound_never_below_v : SoundNeverBelowV
sound_never_below_v s e jobs words =
    let f = facts_of s e in
    from_sound s e (omega (arith, f.few)) (rows_count s f.few words)

pub never_below_v : NeverBelowV
never_below_v l e s₀ calls row z =
    let s = session_from s₀ l calls in
    let g = good_reached l e s₀ calls in
    subst
    (λ (x : List ℕ). Good x s → natural (budget_of (tasks_of x) row) ≤ (job_at (arrive_of s row).session row).budget)
    g.rows (λ h. from_sound s h.sound (good_places h) (sym h.count) row z) g

-- EACH DEADLINE COUNTS ONCE
pub deadlines_counted : DeadlinesCounted
unfolding to_come
deadlines_counted s e d j known m =
    let r = (facts_fit s (facts_of s e)).row j known in
    let t = d - soonest (state_of s) j in
    let n = jobs_by_lem ((tasks s).D j) ((tasks s).T j) t in (
      λ l. omega (arith, jobs_last ((tasks s).D j) ((tasks s).T j) t m (omega arith) l),
      λ l. dite (dec_lt m n) (λ p. p)
          (λ p.
          absurd
          (omega (
            arith,
            jobs_after ((tasks s).D j) ((tasks s).T j) t (omega arith),
            mul-le-mul_right {m = n} {n = m} ((tasks s).T j) (omega arith),
          ))),
    )
