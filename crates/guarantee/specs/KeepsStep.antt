-- What a good session gives, and how a changed one is shown to be good. Assumes nothing.
-- Here a session is good for the rows that it holds.
use Rattle.std.specs.Prelude.{ℕ, ◌+◌, ◌≤◌, ◌<◌, ◌≡◌, refl, true, List, ◌⊎◌, length}
use Rattle.std.proofs.Common.{ap}
use Rattle.edf.specs.Demand.{TaskSet}
use Rattle.edf.specs.State.{State, Same}
use Rattle.edf.specs.Safe.{Safe, Step}
use Rattle.edf.proofs.SafeLaws.{safe_step}
use Rattle.table.specs.Rows.{fit_lawful}
use Rattle.table.specs.Budgets.{brittle}
use Rattle.session.specs.declared.Job.{Job}
use Rattle.session.specs.declared.Session.{Session}
use Rattle.session.specs.Reading.{clock_end, job_at, rows_of, tasks, waits, most_budget, state_of}
use Rattle.session.specs.Calls.{changed}
use Rattle.session.specs.Arrive.{waits_same}
use Rattle.session.specs.Facts.{Choice, Facts, facts_of, sound_of}
use Rattle.guarantee.specs.Good.{Apt, Good, in_table}

-- ---- a row with the same job

pub job_same : (s s' : Session) (i : ℕ) → job_at s' i ≡ job_at s i → Same (state_of s) (state_of s') i
job_same s s' i e = record {
  next = ap (λ (j : Job). j.next) e;
  due = ap (λ (j : Job). j.due) e;
  left = ap (λ (j : Job). j.left) e;
  waits = waits_same s s' i e;
}

-- ---- a good session

-- what soundness asks of row i, besides the invariant of the theory
pub record Bounds (τ : TaskSet) (s : Session) (i : ℕ) : Type 0 where
  pub next : (job_at s i).next ≤ s.clock + τ.T i
  pub budget : waits s i ≡ true → (job_at s i).budget ≤ most_budget τ i

module _ (s : Session) (g : Good (rows_of s) s) where
  pub good_facts : Facts s
  good_facts = facts_of s g.sound

  -- a step keeps the invariant of the theory
  pub good_step : (s' : State) → Step (tasks s) (brittle (tasks s)) (state_of s) s' → Safe (tasks s) (brittle (tasks s)) s'
  good_step s' = safe_step (tasks s) (fit_lawful (tasks s) g.fit) g.feasible (brittle (tasks s)) (state_of s) s' g.safe

  pub good_bounds : (i : ℕ) → i < s.count → Bounds (tasks s) s i
  good_bounds i l = record { next = good_facts.next i l; budget = λ w. (good_facts.job i l w).budget }

  -- other jobs, another clock and another choice
  pub good_changed : (clock : ℕ) (jobs : List Job) (c n : ℕ) → length jobs ≡ 16 → clock ≤ clock_end
      → Safe (tasks s) (brittle (tasks s)) (state_of (changed s clock jobs c n))
      → (1 ≤ n → Apt (tasks s) (state_of (changed s clock jobs c n)) c)
      → ((i : ℕ) → i < s.count → Bounds (tasks s) (changed s clock jobs c n) i)
      → (n ≡ 0) ⊎ Choice (changed s clock jobs c n) → Good (rows_of s) (changed s clock jobs c n)
  unfolding rows_of
  good_changed clock jobs c n size end safe apt bounds choice = record {
    fit = g.fit;
    feasible = g.feasible;
    rows = refl;
    count = g.count;
    places = size;
    sound = sound_of (changed s clock jobs c n)
        (record {
          few = good_facts.few;
          admitted = good_facts.admitted;
          kind = good_facts.kind;
          clock = end;
          next = λ i l. (bounds i l).next;
          job = λ i l w.
              let f = safe.formed i (in_table g i l) w in
              record { some = f.some; most = f.most; deadline = f.deadline; not_late = f.ahead; budget = (bounds i l).budget w };
          choice = choice;
        });
    safe = safe;
    apt = apt;
  }
