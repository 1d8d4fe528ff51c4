-- The code of the calls: each way out is a case of its definition (docs/SPECIFICATION.md §5.3, §5.5, §5.6). Assumes nothing.
-- ---- what soundness gives the code
use Rattle.std.specs.Prelude.{ℕ, ◌+◌, ◌-◌, ◌*◌, ◌≤◌, ◌<◌, min, ◌≡◌, refl, Bool, true, false, not, ◌&&◌, cond, List, leb, eqb, ltb, ℤ, length, get_or, set, replicate}
use Rattle.std.proofs.Math.Path.{sym, ap}
use Rattle.std.proofs.Common.{subst, ◌∙◌, ⊎_elim, Fits}
use Rattle.std.proofs.Math.Logic.{dite}
use native.Mathlib.Omega.{arith}
use Rattle.std.proofs.Math.Decide.{ℕ_discrete}
use Rattle.std.proofs.Math.Dec.{lit≤}
use Rattle.std.proofs.lemmas.List.{get_or-replicate}
use Rattle.std.specs.Int.{w64, from_bool}
use borrow.Author.Tests.{lt-ltb, le-ltb, ltb-false, le-leb, lt-leb, eq-eqb, ne_eqb}
use Rattle.bounded.specs.Tests.{both, gate, gate_on, gate_off, gate_le}
use Rattle.bounded.specs.Sum.{sum_to}
use Rattle.bounded.specs.Besides.{besides}
use Rattle.bounded.specs.Signed.{negative}
use Rattle.table.specs.declared.rows.Task.{Task}
use Rattle.table.specs.Rows.{horizon, tasks_of, FitRow, Fit}
use Rattle.bounded.specs.Within.{Within}
use Rattle.table.specs.Budgets.{budget_of, brittle}
use Rattle.table.specs.declared.inverse.Prepared.{Prepared}
use Rattle.table.specs.Statement.{HasKind}
use Rattle.table.proofs.TheoremsLaws.{kind_means}
use Rattle.table.specs.Inverse.{Ready}
use Rattle.session.specs.declared.Job.{Job}
use Rattle.session.specs.declared.Session.{Session}
use Rattle.session.specs.declared.Answer.TheVariants.{Arrived, Advanced, Finished, NoRow, TooEarly, NoChoice, BadStep, Idling, ClockEnd}
use Rattle.session.specs.declared.Outcome.{Outcome}
use Rattle.edf.specs.Jobs.{jobs_by_lem}
use Rattle.edf.specs.Demand.{TaskSet}
use Rattle.edf.specs.State.{row_load, load_besides}
use Rattle.session.specs.Reading.{idle, clock_end, job_at, rows_of, tasks, waits, state_of}
use Rattle.session.specs.Sound.{sound}
use Rattle.session.specs.Facts.{Facts, Choice, Running, facts_of, facts_fit}
use Rattle.session.specs.Arrive.{new_brittle, new_firm}
use Rattle.session.specs.Ahead.{ahead_by, DueOf, ahead_is}
use Rattle.session.specs.Brittle.{rows_count, Marks}
use Rattle.session.specs.Calls.{refused, changed, over_job_lem, with_budget, stepped_of, arrived_by, arrived_job, arrive_in, aged_job, over_by, over_after, advance_in, unused_of, gains, given_job, finished_of, finish_in}
use Rattle.session.specs.Jobs.{done_to, done_past, done_next}

pub facts_rows : (s : Session) (i : ℕ) → Facts s → length s.words ≡ 48 → i < s.count → Fit (tasks s) × (i < (tasks s).rows)
facts_rows s i f places l = (facts_fit s f, omega (arith, rows_count s f.few places))

-- a choice is in force
pub record ChoiceBounds (s : Session) : Type 0 where
  pub few : s.count ≤ 16
  pub row : (s.chosen ≡ idle → ⊥) → s.chosen < 16
  pub small : s.span ≤ horizon
  pub clock : s.clock ≤ clock_end

pub in_force : (s : Session) → sound s ≡ true → (s.span ≡ 0 → ⊥) → ChoiceBounds s
in_force s e ne = let f = facts_of s e in ⊎_elim (λ z. absurd (ne z)) (λ c. made f c) f.choice
  where
    made : Facts s → Choice s → ChoiceBounds s
    made f c = record {
      few = f.few;
      row = λ no-idle. ⊎_elim (λ z. absurd (no-idle z)) (λ (r : Running s). omega (arith, r.known, f.few)) c.runs;
      small = c.small;
      clock = f.clock;
    }

-- the rows that the code reads are places of the record
pub row_place : (s : Session) (row : ℕ) → sound s ≡ true → row < s.count → row < 16
row_place s row e l = let f = facts_of s e in omega (arith, f.few)

-- where a place's job begins, of 32 bytes each
pub place_fits : (i : ℕ) → i < 16 → Fits w64 (i * 32)
place_fits i l = record { fits = omega arith }

pub ruleset places = (row_place, place_fits)

-- a step of the clock does not wrap
pub step_fits : (s : Session) (n : ℕ) → sound s ≡ true → (s.span ≡ 0 → ⊥) → n ≤ s.span → Fits w64 (s.clock + n)
step_fits s n e ne l = let b = in_force s e ne in record { fits = omega (arith, b.clock, b.small) }

-- ---- arrive

-- the remaining ticks of j, where it is due by d; where none waits, nothing remains
unfoldable pub pending_by : Job → ℕ → ℕ
pending_by j d = gate (leb j.due d) j.left

module _ (j : Job) (d : ℕ) where
  pub pending_later : d < j.due → 0 ≡ pending_by j d
  unfolding pending_by
  pending_later l = sym (gate_off _ j.left (lt-leb j.due d l))

  pub pending_due : j.due ≤ d → j.left ≡ pending_by j d
  unfolding pending_by
  pending_due l = sym (gate_on _ j.left (le-leb j.due d l))

  pub pending_most : pending_by j d ≤ j.left
  unfolding pending_by
  pending_most = gate_le _ j.left

pub ruleset pending_cases = (pending_later, pending_due)

-- the work of the row k, with its job j, that can still have to be done by x ticks after the clock
unfoldable pub load_by : Prepared → Job → ℕ → ℕ → ℕ
load_by k j clock x = pending_by j (clock + x) + k.run * jobs_by_lem k.deadline k.period (x - (j.next - clock))

-- t are the ticks in which jobs of the row that are still to come can arrive and be due
pub load_is : (k : Prepared) (j : Job) (clock x g t p w : ℕ) → j.left ≤ 1000000 → p ≡ pending_by j (clock + x) → g ≡ j.next - clock → t ≡ x - g
    → Within 1000000000000 (k.run * jobs_by_lem k.deadline k.period t) w → Within 1000001000000 (load_by k j clock x) (p + w)
unfolding load_by
load_is k j clock x g t p w few e a b h =
    record { is = rw (e, h.is, b, a); small = omega (arith, e, h.small, pending_most j (clock + x)) }

pub load_fits : (j : Job) (d p w : ℕ) → j.left ≤ 1000000 → p ≡ pending_by j d → w ≤ 1000000000000 → Fits w64 (p + w)
load_fits j d p w few e h = record { fits = omega (arith, e, pending_most j d) }

pub ruleset load_cases = (load_is, load_fits)

-- what the other rows ask for, row by row, by the deadline of a job of row i that arrives now
abbrev pub asked_of : Session → ℕ → ℕ → ℕ
asked_of s i = besides (row_load (tasks s) (state_of s) (s.clock + (tasks s).D i)) i

-- the rows that are looked at: none where the row is brittle
unfoldable pub looked_at_lem : Bool → ℕ → ℕ
looked_at_lem m n = cond m 0 n

module _ (m : Bool) (n : ℕ) where
  pub looked_none : m ≡ true → Within n (looked_at_lem m n) 0
  unfolding looked_at_lem
  looked_none e = record { is = sym (simp e); small = omega arith }

  pub looked_all : m ≡ false → Within n (looked_at_lem m n) n
  unfolding looked_at_lem
  looked_all e = record { is = sym (simp e); small = omega arith }

pub ruleset looked_cases = (looked_none, looked_all)

-- the budget of a new job of the row k, which is brittle or not, where the other rows ask for so much
unfoldable pub budget_by : Task → Bool → ℕ → ℕ
budget_by k m asked = cond m 0 (k.deadline - (k.run + asked))

module _ (k : Task) (m : Bool) (asked : ℕ) where
  pub budget_none : m ≡ true → 0 ≡ budget_by k m asked
  unfolding budget_by
  budget_none e = sym (simp e)

  pub budget_left : (x : ℕ) → m ≡ false → x ≡ k.deadline - (k.run + asked) → x ≡ budget_by k m asked
  unfolding budget_by
  budget_left x e h = h ∙ sym (simp e)

pub ruleset budget_cases = (budget_none, budget_left)

-- the job that arrives
abbrev pub arriving_by : Task → ℕ → Bool → ℕ → Job
arriving_by k clock m asked =
    record { next = clock + k.period; due = clock + k.deadline; left = k.run; budget = budget_by k m asked }

pub arriving_is : (k : Task) (clock b asked : ℕ) (m : Bool) → b ≡ budget_by k m asked
    → record { next = clock + k.period; due = clock + k.deadline; left = k.run; budget = b } ≡ arriving_by k clock m asked
arriving_is k clock b asked m e = rw e

-- m says of the row, if there is one, whether it is brittle
pub record MarkOf (s : Session) (m : List Bool) (row : ℕ) : Type 0 where
  pub at : row < s.count → get_or m row false ≡ brittle (tasks s) row

pub mark_of : (s : Session) (m : List Bool) (row : ℕ) → Marks s m → MarkOf s m row
mark_of s m row h = record { at = h.at row }

-- and so does b
pub record Marked (s : Session) (row : ℕ) (b : Bool) : Type 0 where
  pub is : row < s.count → b ≡ brittle (tasks s) row

pub marked_none : (s : Session) (row : ℕ) (b : Bool) → s.count ≤ row → Marked s row b
marked_none s row b h = record { is = λ l. absurd (omega arith) }

-- w is what the machine reads back of V
pub marked_value : (s : Session) (row : ℕ) (v w : ℤ) (b : Bool) → v ≡ budget_of (tasks s) row → w ≡ v → b ≡ negative w → Marked s row b
unfolding brittle
marked_value s row v w b e r h = record { is = λ l. h ∙ ap negative (r ∙ e) }

pub ruleset marked_cases = (marked_none, marked_value)

-- in a loose and in a tight session all rows are alike
pub mark_alike : (s : Session) (row : ℕ) → sound s ≡ true → length s.words ≡ 48 → (s.kind ≡ 3 → ⊥) → MarkOf s (replicate 16 (eqb s.kind 2)) row
mark_alike s row e places ne =
    let f = facts_of s e in
    record {
      at = λ l. get_or-replicate 16 row (eqb s.kind 2) false (omega (arith, f.few))
          ∙ by (subst (HasKind (tasks s)) f.kind (kind_means (rows_of s) f.admitted)) ne row (omega (arith, rows_count s f.few places));
    }
  where
    by : {k : ℕ} → HasKind (tasks s) k → (k ≡ 3 → ⊥) → (i : ℕ) → i < (tasks s).rows → eqb k 2 ≡ brittle (tasks s) i
    by (HasKind.is_loose h) ne i l = sym (h i l)
    by (HasKind.is_tight h) ne i l = sym (h i l)
    by (HasKind.is_mixed i j p a q b) ne k l = absurd (ne refl)

pub mark_alone : (s : Session) (row : ℕ) (b : Bool) → sound s ≡ true → Marked s row b → MarkOf s (replicate 16 b) row
mark_alone s row b e h =
    record { at = λ l. get_or-replicate 16 row b false (omega (arith, (facts_of s e).few)) ∙ h.is l }

module _ (s : Session) (row : ℕ) where
  pub arrive_unknown : (o : Outcome) → s.count ≤ row → o ≡ refused s (NoRow row) → o ≡ arrive_in s row
  unfolding arrive_in
  arrive_unknown o h e = e ∙ sym (simp (le-leb s.count row h))

  pub arrive_early : (o : Outcome) → row < s.count → s.clock < (job_at s row).next → o ≡ refused s (TooEarly row (job_at s row).next) → o ≡ arrive_in s row
  unfolding arrive_in
  arrive_early o h l e = e ∙ sym (simp (lt-leb s.count row h, lt-ltb s.clock (job_at s row).next l))

-- what is known while the other rows are asked, by what the code has read: l the table, m the marks, t the row i itself, n the rows
-- that are looked at
pub record Asking (s : Session) (i : ℕ) (l : List ℕ) (m : List Bool) (t : Task) (clock n : ℕ) : Type 0 where
  pub sound : sound s ≡ true
  pub places : length s.words ≡ 48
  pub table : l ≡ rows_of s
  pub mark : get_or m i false ≡ brittle (tasks s) i
  pub task : FitRow (tasks s) i t
  pub now : clock ≡ s.clock
  pub looked : Within s.count (looked_at_lem (get_or m i false) s.count) n
  pub known : i < s.count
  pub ready : (job_at s i).next ≤ s.clock

module _ {s : Session} {i : ℕ} {l : List ℕ} {m : List Bool} {t : Task} {clock n : ℕ} (a : Asking s i l m t clock n) where
  pub asked_few : s.count ≤ 16
  asked_few = (facts_of s a.sound).few

  rows : (tasks s).rows ≡ s.count
  rows = rows_count s asked_few a.places

  pub asked_fit : Fit (tasks_of l)
  asked_fit = rw a.table (facts_fit s (facts_of s a.sound))

  pub asked_clock : clock ≤ clock_end
  asked_clock = omega (arith, a.now, (facts_of s a.sound).clock)

  pub asked_run : t.run ≤ 1000000
  asked_run = let d = a.task.row in let r = a.task.rule in omega (arith, d.run, r.fits, r.apart, r.limit)

  pub asked_deadline : t.deadline ≤ 1000000
  asked_deadline = let d = a.task.row in let r = a.task.rule in omega (arith, d.deadline, r.apart, r.limit)

  pub asked_period : t.period ≤ 1000000
  asked_period = let d = a.task.row in let r = a.task.rule in omega (arith, d.period, r.limit)

  module _ (j : ℕ) (u : j < n) where
    pub asked_row : j < (tasks_of l).rows
    asked_row = rw a.table (omega (arith, rows, a.looked.small))

    pub asked_place : j < 16
    asked_place = omega (arith, asked_few, a.looked.small)

    pub asked_left : (job_at s j).left ≤ 1000000
    unfolding waits
    asked_left =
        let f = facts_of s a.sound in
        let r = (facts_fit s f).row j (omega (arith, rows, a.looked.small)) in
        both (waits s j) (λ w. omega (arith, (f.job j (omega (arith, a.looked.small)) w).most))
        (λ w. omega (arith, ltb-false 0 (job_at s j).left w))

    -- one row more
    module _ (k : Prepared) (x r : ℕ) (f : Ready (tasks_of l) j k) (w : Within 1000001000000 (gate (not (eqb j i)) (load_by k (job_at s j) clock t.deadline)) r) where
      pub asked_small : x ≤ 1000001000000 * j → x + r ≤ 1000001000000 * (j + 1)
      asked_small b = omega (arith, w.small)

    pub asked_fits : (x r y : ℕ) → x ≤ 1000001000000 * j → Within 1000001000000 y r → Fits w64 (x + r)
    asked_fits x r y b w = record { fits = omega (arith, asked_place, w.small) }

  module _ (j x : ℕ) (b : x ≤ 1000001000000 * j) (u : j ≤ n) where
    pub asked_most : x ≤ 16000016000000
    asked_most = omega (arith, asked_few, a.looked.small)

    -- the new job is the one that is defined
    job_is : n ≤ j → x ≡ sum_to (asked_of s i) j → arriving_by t clock (get_or m i false) x ≡ arrived_job s i
    unfolding looked_at_lem budget_by load_besides
    job_is h e =
        let d = a.task.row in
        rw (d.period, d.deadline, d.run, a.now)
        (ap (arrived_by (tasks s) i s.clock)
        (both (get_or m i false)
        (λ q. simp q (sym (new_brittle s i (sym a.mark ∙ q))))
        (λ q.
        let all : j ≡ (tasks s).rows = omega (arith, simp q at a.looked.is, rows) in
        simp q (rw (e, all) (sym (new_firm s i (sym a.mark ∙ q)))))))

    pub asked_done : (k : Job) → n ≤ j → x ≡ sum_to (asked_of s i) j → k ≡ arriving_by t clock (get_or m i false) x
        → record { answer = Arrived i k.due; used = 0; session = changed s s.clock (set s.jobs i k) 0 0 } ≡ arrive_in s i
    unfolding arrive_in
    asked_done k h e g =
        ap (λ (k : Job). record { answer = Arrived i k.due; used = 0; session = changed s s.clock (set s.jobs i k) 0 0 }) (g ∙ job_is h e)
        ∙ sym (simp (lt-leb s.count i a.known, le-ltb s.clock (job_at s i).next a.ready))

pub ruleset asked_laws = (asked_place, asked_fits)

pub ruleset arrive_cases = (arrive_unknown, arrive_early)

-- ---- finish

module _ (s : Session) where
  pub finish_none : (o : Outcome) → s.span ≡ 0 → o ≡ refused s NoChoice → o ≡ finish_in s
  unfolding finish_in
  finish_none o h e = e ∙ sym (simp (eq-eqb s.span 0 h))

  pub finish_idle : (o : Outcome) → (s.span ≡ 0 → ⊥) → s.chosen ≡ idle → o ≡ refused s Idling → o ≡ finish_in s
  unfolding finish_in
  finish_idle o h c e = e ∙ sym (simp (ne_eqb s.span 0 h, eq-eqb s.chosen idle c))

  pub finish_done : (o : Outcome) → (s.span ≡ 0 → ⊥) → (s.chosen ≡ idle → ⊥) → o ≡ finished_of s → o ≡ finish_in s
  unfolding finish_in
  finish_done o h c e = e ∙ sym (simp (ne_eqb s.span 0 h, ne_eqb s.chosen idle c))

pub ruleset finish_cases = (finish_none, finish_idle, finish_done)

-- whether j, whose row is brittle or not, gains what a job that is due at `due` leaves unused
unfoldable pub gains_by : Job → ℕ → Bool → Bool
gains_by j due m = not m && (ltb 0 j.left && ltb due j.due)

module _ (j : Job) (due : ℕ) (m : Bool) where
  pub gains_brittle : m ≡ true → false ≡ gains_by j due m
  unfolding gains_by
  gains_brittle e = simp e

  pub gains_none : m ≡ false → j.left < 1 → false ≡ gains_by j due m
  unfolding gains_by
  gains_none e h = simp (e, le-ltb 0 j.left (omega arith))

  pub gains_later : m ≡ false → 1 ≤ j.left → ltb due j.due ≡ gains_by j due m
  unfolding gains_by
  gains_later e h = simp (e, lt-ltb 0 j.left (omega arith))

pub ruleset gains_cases = (gains_brittle, gains_none, gains_later)

-- row i's job j after c, which is due at `due`, is over with n unused ticks
unfoldable pub given_by : TaskSet → ℕ → Job → ℕ → ℕ → ℕ → Bool → Job
given_by τ i j c due n m =
    cond (eqb i c) (over_job_lem j)
    (cond (gains_by j due m) (with_budget j (min (j.budget + n) (τ.D i - τ.C i))) j)

module _ (τ : TaskSet) (i : ℕ) (j : Job) (c due n : ℕ) (m : Bool) where
  pub given_over : (o : Job) → i ≡ c → o ≡ over_job_lem j → o ≡ given_by τ i j c due n m
  unfolding given_by
  given_over o e f = f ∙ sym (simp (eq-eqb i c e))

  pub given_more : (b : Bool) (k : Task) (x : ℕ) → (i ≡ c → ⊥) → b ≡ gains_by j due m → b ≡ true → FitRow τ i k
      → x ≡ min (j.budget + n) (k.deadline - k.run) → with_budget j x ≡ given_by τ i j c due n m
  unfolding given_by
  given_more b k x ne e t f g = let r = f.row in rw (g, r.deadline, r.run) (sym (simp (ne_eqb i c ne, sym e ∙ t)))

  pub given_same : (b : Bool) → (i ≡ c → ⊥) → b ≡ gains_by j due m → b ≡ false → j ≡ given_by τ i j c due n m
  unfolding given_by
  given_same b ne e f = sym (simp (ne_eqb i c ne, sym e ∙ f))

pub ruleset given_cases = (given_over, given_more, given_same)

-- a finish that nothing refuses
pub record Ending (s : Session) : Type 0 where
  pub few : s.count ≤ 16
  pub row : s.chosen < 16
  pub fit : Fit (tasks s)
  pub places : length s.words ≡ 48

pub ending_of : (s : Session) → length s.words ≡ 48 → sound s ≡ true → (s.span ≡ 0 → ⊥) → (s.chosen ≡ idle → ⊥) → Ending s
ending_of s p e n ne =
    let f = facts_of s e in
    record { few = f.few; row = (in_force s e n).row ne; fit = facts_fit s f; places = p }

pub ending_rows : (s : Session) (i : ℕ) → Ending s → i < s.count → Fit (tasks s) × (i < (tasks s).rows)
ending_rows s i f l = (f.fit, omega (arith, rows_count s f.few f.places))

pub given_next : (s q : Session) (k : List Bool) (i : ℕ) (j : Job) → q ≡ done_to s (given_job s) i → Marks s k → i < s.count
    → j ≡ given_by (tasks s) i (job_at q i) s.chosen (job_at s s.chosen).due (unused_of s) (get_or k i false)
    → changed q q.clock (set q.jobs i j) q.chosen q.span ≡ done_to s (given_job s) (i + 1)
unfolding given_by given_job gains_by gains waits
given_next s q k i j e h l f = done_next s (given_job s) q i j e (rw (done_past s (given_job s) q i e, h.at i l) at f)

pub finished_is : (s q : Session) (i m : ℕ) → q ≡ done_to s (given_job s) i → i ≤ m → m ≤ i → m ≡ s.count
    → record { answer = Finished s.chosen (unused_of s); used = 0; session = changed q q.clock q.jobs 0 0 } ≡ finished_of s
finished_is s q i m e l h c = let j : i ≡ s.count = omega arith in rw (e, j) refl

-- ---- advance

-- the chosen row, and 0 under idle
unfoldable pub place_of : ℕ → ℕ
place_of c = cond (ltb c 16) c 0

module _ (c : ℕ) where
  place_row : c < 16 → c ≡ place_of c
  unfolding place_of
  place_row l = simp (lt-ltb c 16 l)

  pub place_chosen : c < 16 → Within 15 (place_of c) c
  place_chosen l = record { is = place_row l; small = omega arith }

  pub place_first : 16 ≤ c → Within 15 (place_of c) 0
  unfolding place_of
  place_first l = record { is = simp (le-ltb c 16 l); small = lit≤ tt }

pub ruleset place_cases = (place_chosen, place_first)

-- row i's job j after n ticks of c
unfoldable pub aged_by : Job → ℕ → ℕ → ℕ → ℕ → Job
aged_by j i c due n =
    cond (eqb i c)
    (cond (eqb j.left n) (over_job_lem j)
    record { next = j.next; due = j.due; left = j.left - n; budget = j.budget })
    (cond (ahead_by j c due) (with_budget j (j.budget - n)) j)

module _ (j : Job) (i c due n : ℕ) where
  pub aged_over : (o : Job) → i ≡ c → j.left ≡ n → o ≡ over_job_lem j → o ≡ aged_by j i c due n
  unfolding aged_by
  aged_over o e f g = g ∙ sym (simp (eq-eqb i c e, eq-eqb j.left n f))

  pub aged_runs : (x : ℕ) → i ≡ c → (j.left ≡ n → ⊥) → x ≡ j.left - n → record { next = j.next; due = j.due; left = x; budget = j.budget } ≡ aged_by j i c due n
  unfolding aged_by
  aged_runs x e f g = simp (eq-eqb i c e, ne_eqb j.left n f, g)

  pub aged_loses : (x : ℕ) (b : Bool) → (i ≡ c → ⊥) → b ≡ ahead_by j c due → b ≡ true → x ≡ j.budget - n → with_budget j x ≡ aged_by j i c due n
  unfolding aged_by
  aged_loses x b e f t g = simp (ne_eqb i c e, sym f ∙ t, g)

  pub aged_keeps : (b : Bool) → (i ≡ c → ⊥) → b ≡ ahead_by j c due → b ≡ false → j ≡ aged_by j i c due n
  unfolding aged_by
  aged_keeps b e f t = simp (ne_eqb i c e, sym f ∙ t)

pub ruleset aged_cases = (aged_over, aged_runs, aged_loses, aged_keeps)

pub aged_row : (s : Session) (due n i : ℕ) → DueOf s s.chosen due → aged_by (job_at s i) i s.chosen due n ≡ aged_job s n i
unfolding aged_by aged_job
aged_row s due n i d = rw (ahead_is s s.chosen due d i)

-- where a row is chosen, the code reads its job
place_job : (s : Session) (at : ℕ) → ChoiceBounds s → at ≡ place_of s.chosen → (s.chosen ≡ idle → ⊥) → job_at s at ≡ job_at s s.chosen
place_job s at b e ne = ap (job_at s) (e ∙ sym (place_row s.chosen (b.row ne)))

pub place_due : (s : Session) (at : ℕ) → ChoiceBounds s → at ≡ place_of s.chosen → DueOf s s.chosen (job_at s at).due
place_due s at b e = record { is = λ ne. ap (λ z. z.due) (place_job s at b e ne) }

module _ (c left n : ℕ) where
  pub over_idle : c ≡ idle → 0 ≡ over_by c left n
  unfolding over_by
  over_idle e = simp (eq-eqb c idle e)

  pub over_row : (r : ℕ) → (c ≡ idle → ⊥) → r ≡ from_bool (eqb left n) → r ≡ over_by c left n
  unfolding over_by
  over_row r ne e = both (eqb left n) (λ t. e ∙ simp (ne_eqb c idle ne, t)) (λ f. e ∙ simp (ne_eqb c idle ne, f))

pub ruleset over_cases = (over_idle, over_row)

over_is : (s : Session) (n at : ℕ) → ChoiceBounds s → at ≡ place_of s.chosen → over_by s.chosen (job_at s at).left n ≡ over_after s n
unfolding over_by over_after
over_is s n at b e =
    dite (ℕ_discrete s.chosen idle) (λ c. simp (eq-eqb s.chosen idle c))
    (λ ne. simp (ne_eqb s.chosen idle ne, ap (λ z. z.left) (place_job s at b e ne)))

-- the choice after a step that leaves so many ticks of it
unfoldable pub kept_by : ℕ → ℕ → ℕ
kept_by c left = cond (eqb left 0) 0 c

module _ (c left : ℕ) where
  pub kept_none : left ≡ 0 → 0 ≡ kept_by c left
  unfolding kept_by
  kept_none e = simp (eq-eqb left 0 e)

  pub kept_same : (left ≡ 0 → ⊥) → c ≡ kept_by c left
  unfolding kept_by
  kept_same e = simp (ne_eqb left 0 e)

pub ruleset kept_cases = (kept_none, kept_same)

kept_is : (c span n : ℕ) → n ≤ span → kept_by c (span - n) ≡ cond (eqb span n) 0 c
unfolding kept_by
kept_is c span n l =
    dite (ℕ_discrete span n) (λ e. simp (eq-eqb span n e, eq-eqb (span - n) 0 (omega arith)))
    (λ ne. simp (ne_eqb span n ne, ne_eqb (span - n) 0 (λ z. ne (omega arith))))

-- a step that nothing refuses
pub record Step (s : Session) (n : ℕ) : Type 0 where
  pub bounds : ChoiceBounds s
  pub within : n ≤ s.span
  pub ends : s.clock + n ≤ clock_end

pub stepped_is : (s q : Session) (n i m at x y : ℕ) → Step s n → q ≡ done_to s (aged_job s n) i → i ≤ m → m ≤ i → m ≡ s.count → at ≡ place_of s.chosen
    → x ≡ kept_by s.chosen (s.span - n) → y ≡ over_by s.chosen (job_at s at).left n
    → record { answer = Advanced (s.span - n) y; used = 0; session = changed q (s.clock + n) q.jobs x (s.span - n) } ≡ stepped_of s n
stepped_is s q n i m at x y t e l h c p a b =
    let j : i ≡ s.count = omega arith in
    rw (a ∙ kept_is s.chosen s.span n t.within, b ∙ over_is s n at t.bounds p, e, j) refl

module _ (s : Session) (n : ℕ) where
  pub advance_none : (o : Outcome) → s.span ≡ 0 → o ≡ refused s NoChoice → o ≡ advance_in s n
  unfolding advance_in
  advance_none o h e = e ∙ sym (simp (eq-eqb s.span 0 h))

  module _ (a : s.span ≡ 0 → ⊥) where
    pub advance_zero : (o : Outcome) → n ≡ 0 → o ≡ refused s (BadStep s.span) → o ≡ advance_in s n
    unfolding advance_in
    advance_zero o h e = e ∙ sym (simp (ne_eqb s.span 0 a, eq-eqb n 0 h))

    module _ (b : n ≡ 0 → ⊥) where
      pub advance_long : (o : Outcome) → s.span < n → o ≡ refused s (BadStep s.span) → o ≡ advance_in s n
      unfolding advance_in
      advance_long o h e = e ∙ sym (simp (ne_eqb s.span 0 a, ne_eqb n 0 b, lt-ltb s.span n h))

      module _ (c : n ≤ s.span) where
        pub advance_end : (o : Outcome) → clock_end < s.clock + n → o ≡ refused s ClockEnd → o ≡ advance_in s n
        unfolding advance_in
        advance_end o h e =
            e ∙ sym (simp (ne_eqb s.span 0 a, ne_eqb n 0 b, le-ltb s.span n c, lt-ltb clock_end (s.clock + n) h))

        pub advance_done : (o : Outcome) → s.clock + n ≤ clock_end → o ≡ stepped_of s n → o ≡ advance_in s n
        unfolding advance_in
        advance_done o d e =
            e ∙ sym (simp (ne_eqb s.span 0 a, ne_eqb n 0 b, le-ltb s.span n c, le-ltb clock_end (s.clock + n) d))

pub ruleset advance_cases = (advance_none, advance_zero, advance_long, advance_end, advance_done)

-- a step that is not refused
pub step_ready : (s : Session) (n : ℕ) → sound s ≡ true → (s.span ≡ 0 → ⊥) → n ≤ s.span → s.clock + n ≤ clock_end → Step s n
step_ready s n e ne l d = record { bounds = in_force s e ne; within = l; ends = d }
