-- What a call on a sound session does, refused or accepted, and on any other (docs/SPECIFICATION.md §5.3 to §5.7). Assumes
-- nothing.
use Rattle.std.specs.Prelude.{ℕ, ◌+◌, ◌-◌, ◌≤◌, ◌<◌, ◌≡◌, true, false, cond, List, leb, ltb, eqb, set}
use Rattle.std.proofs.Common.{arith, leb-false, ltb-false}
use Rattle.bounded.specs.Tests.{both}
use Rattle.session.specs.declared.Session.{Session}
use Rattle.session.specs.declared.Answer.{Answer}
use Rattle.session.specs.declared.Answer.TheVariants.{Arrived, Chosen, Advanced, Finished, Unsound, NoRow, TooEarly, InForce, NoChoice, BadStep, Idling, ClockEnd}
use Rattle.session.specs.Reading.{idle, clock_end, job_at, tasks}
use Rattle.session.specs.Sound.{sound}
use Rattle.session.specs.Choose.{pick_of, pick_used, span_of}
use Rattle.session.specs.Calls.{shown, refused, changed, arrived_job, arrive_in, choose_in, jobs_with, aged_job, over_after, advance_in, unused_of, given_job, finish_in, arrive_of, choose_of, advance_of, finish_of}
use Rattle.session.specs.Facts.{Running, Choice}
use Rattle.guarantee.specs.Ledger.{Call, arrive, choose, advance, finish}
use Rattle.guarantee.specs.Statement.{outcome_of}
use Rattle.guarantee.specs.KeepsChoice.{in_force, running}

-- the call on s leaves the second session and gives the answer; refusal 5 is for sessions that are not sound
pub data Effect (s : Session) : Call → Session → Answer → Type 0 where
  refusal : {c : Call} (a : Answer) → 6 ≤ (shown a).number → Effect s c s a
  arrived : (k : ℕ) → k < s.count → (job_at s k).next ≤ s.clock
      → Effect s (arrive k) (changed s s.clock (set s.jobs k (arrived_job s k)) 0 0) (Arrived k (s.clock + (tasks s).D k))
  chosen : (w : List ℕ)
      → Effect s (choose w) (changed s s.clock s.jobs (pick_of s w) (span_of s w (pick_used s w) (pick_of s w)))
      (Chosen (pick_of s w) (span_of s w (pick_used s w) (pick_of s w)))
  advanced : (n : ℕ) → Choice s → n ≤ s.span → s.clock + n ≤ clock_end
      → Effect s (advance n)
      (changed s (s.clock + n) (jobs_with s (aged_job s n) s.count) (cond (eqb s.span n) 0 s.chosen) (s.span - n))
      (Advanced (s.span - n) (over_after s n))
  finished : Choice s → Running s
      → Effect s finish (changed s s.clock (jobs_with s (given_job s) s.count) 0 0)
      (Finished s.chosen (unused_of s))

pub effect_of : (s : Session) → sound s ≡ true → (c : Call) → Effect s c (outcome_of s c).session (outcome_of s c).answer
unfolding arrive_of choose_of advance_of finish_of arrive_in choose_in advance_in finish_in
effect_of s e (arrive k) =
    simp e
    (both (leb s.count k) (λ a. simp a (refusal (NoRow k) (omega arith)))
    (λ a. both (ltb s.clock (job_at s k).next) (λ b. simp (a, b) (refusal (TooEarly k (job_at s k).next) (omega arith)))
    (λ b. simp (a, b) (arrived k (leb-false _ _ a) (ltb-false _ _ b)))))
effect_of s e (choose w) =
    simp e (both (ltb 0 s.span) (λ a. simp a (refusal (InForce s.span) (omega arith))) (λ a. simp a (chosen w)))
effect_of s e (advance n) =
    simp e
    (both (eqb s.span 0) (λ a. simp a (refusal NoChoice (omega arith)))
    (λ a. both (eqb n 0) (λ b. simp (a, b) (refusal (BadStep s.span) (omega arith)))
    (λ b. both (ltb s.span n) (λ d. simp (a, b, d) (refusal (BadStep s.span) (omega arith)))
    (λ d. both (ltb clock_end (s.clock + n)) (λ f. simp (a, b, d, f) (refusal ClockEnd (omega arith)))
    (λ f. simp (a, b, d, f)
    (advanced n (in_force s e a) (ltb-false _ _ d) (ltb-false _ _ f)))))))
effect_of s e finish =
    simp e
    (both (eqb s.span 0) (λ a. simp a (refusal NoChoice (omega arith)))
    (λ a. both (eqb s.chosen idle) (λ b. simp (a, b) (refusal Idling (omega arith)))
    (λ b. let c = in_force s e a in simp (a, b) (finished c (running s c b)))))

-- a session that is not sound is refused before all else
pub unsound_refused : (s : Session) (c : Call) → sound s ≡ false → outcome_of s c ≡ refused s Unsound
unfolding arrive_of choose_of advance_of finish_of
unsound_refused s (arrive k) e = simp e
unsound_refused s (choose w) e = simp e
unsound_refused s (advance n) e = simp e
unsound_refused s finish e = simp e
