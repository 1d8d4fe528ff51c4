-- What a sound session's tests say, as facts, and back from these to the tests (docs/SPECIFICATION.md §5.2). Assumes nothing.
use Rattle.std.specs.Prelude.{ℕ, ◌+◌, ◌*◌, ◌≤◌, ◌<◌, ◌≡◌, refl, true, not, ◌&&◌, ◌||◌, ◌⊎◌, leb, eqb}
use Rattle.std.proofs.Math.Logic.{dite}
use Rattle.std.proofs.Common.{inl, inr, ⊎_elim, arith, leb-true, ltb-true, eqb-true, le-leb, lt-ltb, eq-eqb}
use Rattle.std.proofs.Math.Decide.{dec_lt}
use Rattle.std.proofs.Math.ListN.{get_or-eq_default}
use Rattle.std.proofs.lemmas.Bool.{eqb-false}
use Rattle.bounded.specs.Tests.{both, and-true, and_both, so_then, then_so, or-true}
use Rattle.bounded.specs.All.{all_to, all_at, all_of}
use Rattle.edf.specs.State.{WellFormed}
use Rattle.table.specs.Rows.{horizon, tasks_of, Fit}
use Rattle.table.specs.Verdict.{opinion_of}
use Rattle.table.proofs.TheoremsLaws.{opinion_fit}
use Rattle.session.specs.declared.Session.{Session}
use Rattle.session.specs.Reading.{idle, clock_end, job_at, rows_of, tasks, waits, ahead, most_budget, state_of}
use Rattle.session.specs.Sound.{sound_rows, sound_waiting, sound_job, runs, affords, sound_choice, sound}

-- the job of row i, where one waits
pub record Waiting (s : Session) (i : ℕ) : Type 0 where
  pub some : 1 ≤ (job_at s i).left
  pub most : (job_at s i).left ≤ (tasks s).C i
  pub deadline : (job_at s i).due + (tasks s).T i ≡ (job_at s i).next + (tasks s).D i
  pub not_late : s.clock < (job_at s i).due
  pub budget : (job_at s i).budget ≤ most_budget (tasks s) i

-- the chosen row, where idle is not chosen
pub record Running (s : Session) : Type 0 where
  pub known : s.chosen < s.count
  pub waiting : waits s s.chosen ≡ true
  pub within : s.span ≤ (job_at s s.chosen).left

-- the choice, where one is in force
pub record Choice (s : Session) : Type 0 where
  pub some : 1 ≤ s.span
  pub small : s.span ≤ horizon
  pub runs : (s.chosen ≡ idle) ⊎ Running s
  pub affords : (j : ℕ) → j < s.count → ahead s s.chosen j ≡ true → s.span ≤ (job_at s j).budget

pub record Facts (s : Session) : Type 0 where
  pub few : s.count ≤ 16
  pub admitted : (opinion_of (rows_of s)).number ≡ 0
  pub kind : (opinion_of (rows_of s)).first ≡ s.kind
  pub clock : s.clock ≤ clock_end
  pub next : (i : ℕ) → i < s.count → (job_at s i).next ≤ s.clock + (tasks s).T i
  pub job : (i : ℕ) → i < s.count → waits s i ≡ true → Waiting s i
  pub choice : (s.span ≡ 0) ⊎ Choice s

-- ---- from the tests to the facts

waiting_of : (s : Session) (i : ℕ) → waits s i ≡ true → sound_waiting s i ≡ true → Waiting s i
unfolding waits sound_waiting
waiting_of s i w e =
    let a = and-true _ _ e in
    let b = and-true _ _ a.1 in
    let c = and-true _ _ b.1 in
    record {
      some = ltb-true 0 (job_at s i).left w;
      most = leb-true _ _ a.0;
      deadline = eqb-true _ _ b.0;
      not_late = ltb-true _ _ c.0;
      budget = leb-true _ _ c.1;
    }

running_of : (s : Session) → runs s s.chosen s.span ≡ true → (s.chosen ≡ idle) ⊎ Running s
unfolding runs
running_of s e =
    ⊎_elim (λ a. inl (eqb-true s.chosen idle a))
    (λ b.
    let c = and-true _ _ b in
    let d = and-true _ _ c.1 in
    inr (record { known = ltb-true _ _ c.0; waiting = d.0; within = leb-true _ _ d.1 }))
    (or-true (eqb s.chosen idle) _ e)

choice_of : (s : Session) → sound_choice s ≡ true → (s.span ≡ 0) ⊎ Choice s
unfolding sound_choice affords
choice_of s e =
    both (eqb s.span 0) (λ a. inl (eqb-true s.span 0 a))
    (λ a.
    let b = and-true (leb s.span horizon) (runs s s.chosen s.span && all_to (affords s s.chosen s.span) s.count) (simp a at e) in
    let c = and-true (runs s s.chosen s.span) (all_to (affords s s.chosen s.span) s.count) b.1 in
    inr
    (record {
      some = omega (arith, eqb-false s.span 0 a);
      small = leb-true s.span horizon b.0;
      runs = running_of s c.0;
      affords = λ j l w. leb-true s.span (job_at s j).budget
          (so_then (ahead s s.chosen j) (leb s.span (job_at s j).budget) (all_at (affords s s.chosen s.span) s.count c.1 j l) w);
    }))

pub facts_of : (s : Session) → sound s ≡ true → Facts s
unfolding sound sound_rows sound_job
facts_of s e =
    let a = and-true (sound_rows s) _ e in
    let b = and-true (leb s.clock clock_end) (all_to (sound_job s) s.count && sound_choice s) a.1 in
    let c = and-true (all_to (sound_job s) s.count) (sound_choice s) b.1 in
    let r = and-true (leb s.count 16) (eqb (opinion_of (rows_of s)).number 0 && eqb (opinion_of (rows_of s)).first s.kind) a.0 in
    let k = and-true (eqb (opinion_of (rows_of s)).number 0) (eqb (opinion_of (rows_of s)).first s.kind) r.1 in
    let job : (i : ℕ) → i < s.count → sound_job s i ≡ true = all_at (sound_job s) s.count c.0 in
    record {
      few = leb-true s.count 16 r.0;
      admitted = eqb-true _ _ k.0;
      kind = eqb-true _ _ k.1;
      clock = leb-true _ _ b.0;
      next = λ i l. leb-true _ _ (and-true (leb (job_at s i).next (s.clock + (tasks s).T i)) (not (waits s i) || sound_waiting s i) (job i l)).0;
      job = λ i l w. waiting_of s i w
          (so_then (waits s i) (sound_waiting s i)
          (and-true (leb (job_at s i).next (s.clock + (tasks s).T i)) (not (waits s i) || sound_waiting s i) (job i l)).1 w);
      choice = choice_of s c.1;
    }

-- ---- from the facts to the tests

waiting_sound : (s : Session) (i : ℕ) → Waiting s i → sound_waiting s i ≡ true
unfolding sound_waiting
waiting_sound s i w =
    simp (le-leb _ _ w.most, eq-eqb _ _ w.deadline, lt-ltb _ _ w.not_late) (le-leb _ _ w.budget)

running_sound : (s : Session) → (s.chosen ≡ idle) ⊎ Running s → runs s s.chosen s.span ≡ true
unfolding runs
running_sound s (inl e) = simp (eq-eqb s.chosen idle e)
running_sound s (inr r) =
    both (eqb s.chosen idle) (λ e. simp e)
    (λ e. simp (e, lt-ltb s.chosen s.count r.known, r.waiting) (le-leb _ _ r.within))

choice_sound : (s : Session) → (s.span ≡ 0) ⊎ Choice s → sound_choice s ≡ true
unfolding sound_choice affords
choice_sound s (inl e) = simp (eq-eqb s.span 0 e)
choice_sound s (inr c) =
    both (eqb s.span 0) (λ e. simp e)
    (λ e.
    simp (e, le-leb s.span horizon c.small, running_sound s c.runs)
    (all_of (affords s s.chosen s.span) s.count
    (λ j l. then_so (ahead s s.chosen j) _ (λ a. le-leb s.span (job_at s j).budget (c.affords j l a)))))

pub sound_of : (s : Session) → Facts s → sound s ≡ true
unfolding sound sound_rows sound_job
sound_of s f =
    simp (
      le-leb s.count 16 f.few,
      f.admitted,
      f.kind,
      eq-eqb s.kind s.kind refl,
      le-leb s.clock clock_end f.clock,
      all_of (sound_job s) s.count
          (λ i l.
          and_both _ _ (le-leb _ _ (f.next i l))
          (then_so (waits s i) (sound_waiting s i) (λ w. waiting_sound s i (f.job i l w)))),
    ) (choice_sound s f.choice)

-- ---- the rows

-- its rows keep their rule
pub facts_fit : (s : Session) → Facts s → Fit (tasks s)
facts_fit s f = opinion_fit (rows_of s) f.admitted

-- its waiting jobs are as the theory has them
pub facts_formed : (s : Session) → Facts s → (tasks s).rows ≡ s.count → WellFormed (tasks s) (state_of s)
facts_formed s f rows i l w =
    let j = f.job i (omega arith) w in
    record { some = j.some; most = j.most; deadline = j.deadline; ahead = j.not_late }

-- past the table's rows D is read as 0
past_deadline : (s : Session) (i : ℕ) → (tasks s).rows ≤ i → (tasks s).D i ≡ 0
unfolding tasks_of
past_deadline s i h = get_or-eq_default (rows_of s) 0 {n = 3 * i + 2} (omega arith)

-- it is at most 1,000,000
pub facts_deadline : (s : Session) → Facts s → (i : ℕ) → (tasks s).D i ≤ horizon
facts_deadline s f i =
    dite (dec_lt i (tasks s).rows) (λ h. omega (arith, (facts_fit s f).row i h)) (λ h. omega (arith, past_deadline s i (omega arith)))

-- a job waits only in a row of the table
pub facts_row : (s : Session) → Facts s → (i : ℕ) → i < s.count → waits s i ≡ true → i < (tasks s).rows
facts_row s f i l w =
    dite (dec_lt i (tasks s).rows) (λ h. h)
    (λ h. let j = f.job i l w in absurd (omega (arith, j.deadline, j.not_late, f.next i l, past_deadline s i (omega arith))))
