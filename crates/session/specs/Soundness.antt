-- The code that decides soundness, row by row (docs/SPECIFICATION.md §5.2). Assumes nothing.
use Rattle.std.specs.Prelude.{Option, Some, None, MatchOption, ℕ, ◌+◌, ◌-◌, ◌≤◌, ◌<◌, ◌≡◌, Bool, true, false, not, ◌&&◌, ◌||◌, cond, List, leb, ltb, eqb, length, get_or}
use Rattle.std.proofs.Math.Path.{sym}
use Rattle.std.proofs.Common.{ap, ◌∙◌, arith}
use borrow.Author.Tests.{lt-ltb, le-ltb, le-leb, lt-leb, eq-eqb, ne_eqb}
use Rattle.bounded.specs.All.{all_to}
use Rattle.edf.specs.Demand.{TaskSet}
use Rattle.table.specs.declared.rows.Task.{Task}
use Rattle.table.specs.Rows.{horizon, FitRow, Fit}
use Rattle.table.specs.declared.kind.Admission.{Admission}
use Rattle.table.specs.Budgets.{marks_of, marks_at}
use Rattle.table.specs.Verdict.{opinion_of, kind_of}
use Rattle.table.specs.Opinion.{kind_number, kind_some_number}
use Rattle.table.specs.Kind.{admitted_as, KindFor, kind_some}
use Rattle.table.proofs.KindLaws.{kind_none}
use Rattle.table.proofs.TheoremsLaws.{opinion_fit}
use Rattle.session.specs.declared.Job.{Job}
use Rattle.session.specs.declared.Session.{Session}
use Rattle.session.specs.Reading.{idle, clock_end, job_at, rows_of, tasks, waits, most_budget}
use Rattle.session.specs.Sound.{sound_rows, sound_waiting, sound_job, runs, affords, sound_choice, sound}
use Rattle.session.specs.Brittle.{rows_count, Marks}
use Rattle.session.specs.Ahead.{ahead_by, DueOf, ahead_is}

-- a row's job j, with its task k, the clock and the most budget that it may have
unfoldable pub sound_by : Job → Task → ℕ → ℕ → Bool
sound_by j k clock most =
    leb j.next (clock + k.period)
    && (not (ltb 0 j.left)
    || (leb j.left k.run
    && (eqb (j.due + k.period) (j.next + k.deadline) && (ltb clock j.due && leb j.budget most))))

pub record Small (k : Task) (at : ℕ) : Type 0 where
  pub clock : at ≤ clock_end
  pub period : k.period ≤ horizon
  pub deadline : k.deadline ≤ horizon

module _ (j : Job) (k : Task) (clock most : ℕ) (m : Small k clock) where
  pub job_next : clock + k.period < j.next → false ≡ sound_by j k clock most
  unfolding sound_by
  job_next a = simp (lt-leb j.next (clock + k.period) a)

  module _ (a : j.next ≤ clock + k.period) where
    pub job_none : j.left < 1 → true ≡ sound_by j k clock most
    unfolding sound_by
    job_none b = simp (le-leb j.next (clock + k.period) a, le-ltb 0 j.left (omega arith))

    module _ (b : 1 ≤ j.left) where
      pub job_left : k.run < j.left → false ≡ sound_by j k clock most
      unfolding sound_by
      job_left c = simp (le-leb j.next (clock + k.period) a, lt-ltb 0 j.left (omega arith), lt-leb j.left k.run c)

      module _ (c : j.left ≤ k.run) where
        job_due : (j.due + k.period ≡ j.next + k.deadline → ⊥) → false ≡ sound_by j k clock most
        unfolding sound_by
        job_due ne =
            simp (
              le-leb j.next (clock + k.period) a,
              lt-ltb 0 j.left (omega arith),
              le-leb j.left k.run c,
              ne_eqb (j.due + k.period) (j.next + k.deadline) ne,
            )

        -- a deadline past every clock's reach
        pub job_far : 18014398509481984 < j.due → false ≡ sound_by j k clock most
        job_far d = let p = m.clock in let q = m.deadline in job_due (λ e. omega arith)

        pub job_other : j.due ≤ 18014398509481984 → (j.due + k.period ≡ j.next + k.deadline → ⊥) → false ≡ sound_by j k clock most
        job_other d ne = job_due ne

        module _ (e : j.due + k.period ≡ j.next + k.deadline) where
          pub job_late : j.due ≤ clock → false ≡ sound_by j k clock most
          unfolding sound_by
          job_late f =
              simp (
                le-leb j.next (clock + k.period) a,
                lt-ltb 0 j.left (omega arith),
                le-leb j.left k.run c,
                eq-eqb (j.due + k.period) (j.next + k.deadline) e,
                le-ltb clock j.due f,
              )

          pub job_rest : clock < j.due → leb j.budget most ≡ sound_by j k clock most
          unfolding sound_by
          job_rest f =
              simp (
                le-leb j.next (clock + k.period) a,
                lt-ltb 0 j.left (omega arith),
                le-leb j.left k.run c,
                eq-eqb (j.due + k.period) (j.next + k.deadline) e,
                lt-ltb clock j.due f,
              )

pub ruleset job_cases = (job_next, job_none, job_left, job_far, job_other, job_late, job_rest)

-- the most budget of a job of task k, whose row is brittle or not
unfoldable pub most_by : Bool → Task → ℕ
most_by m k = cond m 0 (k.deadline - k.run)

module _ (m : Bool) (k : Task) where
  pub most_brittle : m ≡ true → 0 ≡ most_by m k
  unfolding most_by
  most_brittle e = simp e

  pub most_other : m ≡ false → k.deadline - k.run ≡ most_by m k
  unfolding most_by
  most_other e = simp e

pub ruleset most_cases = (most_brittle, most_other)

-- the same of row i of τ
unfoldable pub sound_in : TaskSet → ℕ → Job → Bool → ℕ → Bool
sound_in τ i j m clock =
    leb j.next (clock + τ.T i)
    && (not (ltb 0 j.left)
    || (leb j.left (τ.C i)
    && (eqb (j.due + τ.T i) (j.next + τ.D i) && (ltb clock j.due && leb j.budget (cond m 0 (τ.D i - τ.C i))))))

pub row_is : (τ : TaskSet) (i most clock : ℕ) (j : Job) (m : Bool) (k : Task) (b : Bool) → FitRow τ i k → most ≡ most_by m k
    → b ≡ sound_by j k clock most → b ≡ sound_in τ i j m clock
unfolding sound_by sound_in most_by
row_is τ i most clock j m k b f g h = let r = f.row in h ∙ rw (g, r.run, r.period, r.deadline)

pub row_small : (τ : TaskSet) (i clock : ℕ) (k : Task) → clock ≤ clock_end → FitRow τ i k → Small k clock
row_small τ i clock k h f =
    let r = f.row in
    let u = f.rule in
    record { clock = h; period = omega arith; deadline = omega arith }

-- ---- the choice

-- n is not more than j's budget, where j loses budget
unfoldable pub affords_by : Job → ℕ → ℕ → ℕ → Bool
affords_by j c due n = not (ahead_by j c due) || leb n j.budget

pub affords_not : (j : Job) (c due n : ℕ) (b : Bool) → b ≡ ahead_by j c due → b ≡ false → true ≡ affords_by j c due n
unfolding affords_by
affords_not j c due n b e f = simp (sym e ∙ f)

pub affords_is : (j : Job) (c due n : ℕ) (b : Bool) → b ≡ ahead_by j c due → b ≡ true → leb n j.budget ≡ affords_by j c due n
unfolding affords_by
affords_is j c due n b e f = simp (sym e ∙ f)

pub ruleset affords_cases = (affords_not, affords_is)

pub affords_row : (s : Session) (c due n i : ℕ) (b : Bool) → DueOf s c due → b ≡ affords_by (job_at s i) c due n → b ≡ affords s c n i
unfolding affords_by affords
affords_row s c due n i b d e = e ∙ ap (λ (x : Bool). not x || leb n (job_at s i).budget) (ahead_is s c due d i)

module _ (s : Session) where
  pub choice_none : s.span ≡ 0 → true ≡ sound_choice s
  unfolding sound_choice
  choice_none e = simp (eq-eqb s.span 0 e)

  module _ (a : s.span ≡ 0 → ⊥) where
    pub choice_long : horizon < s.span → false ≡ sound_choice s
    unfolding sound_choice
    choice_long b = simp (ne_eqb s.span 0 a, lt-leb s.span horizon b)

    module _ (b : s.span ≤ horizon) where
      pub choice_idle : (x : Bool) → s.chosen ≡ idle → x ≡ all_to (affords s s.chosen s.span) s.count → x ≡ sound_choice s
      unfolding sound_choice runs
      choice_idle x e f = f ∙ sym (simp (ne_eqb s.span 0 a, le-leb s.span horizon b, eq-eqb s.chosen idle e))

      module _ (c : s.chosen ≡ idle → ⊥) where
        pub choice_unknown : s.count ≤ s.chosen → false ≡ sound_choice s
        unfolding sound_choice runs
        choice_unknown d =
            simp (ne_eqb s.span 0 a, le-leb s.span horizon b, ne_eqb s.chosen idle c, le-ltb s.chosen s.count d)

        module _ (d : s.chosen < s.count) where
          pub choice_over : (job_at s s.chosen).left < 1 → false ≡ sound_choice s
          unfolding sound_choice runs waits
          choice_over e =
              simp (
                ne_eqb s.span 0 a,
                le-leb s.span horizon b,
                ne_eqb s.chosen idle c,
                lt-ltb s.chosen s.count d,
                le-ltb 0 (job_at s s.chosen).left (omega arith),
              )

          module _ (e : 1 ≤ (job_at s s.chosen).left) where
            pub choice_short : (job_at s s.chosen).left < s.span → false ≡ sound_choice s
            unfolding sound_choice runs waits
            choice_short f =
                simp (
                  ne_eqb s.span 0 a,
                  le-leb s.span horizon b,
                  ne_eqb s.chosen idle c,
                  lt-ltb s.chosen s.count d,
                  lt-ltb 0 (job_at s s.chosen).left (omega arith),
                  lt-leb s.span (job_at s s.chosen).left f,
                )

            pub choice_row : (x : Bool) → s.span ≤ (job_at s s.chosen).left → x ≡ all_to (affords s s.chosen s.span) s.count → x ≡ sound_choice s
            unfolding sound_choice runs waits
            choice_row x f g =
                g
                ∙ sym
                (simp (
                  ne_eqb s.span 0 a,
                  le-leb s.span horizon b,
                  ne_eqb s.chosen idle c,
                  lt-ltb s.chosen s.count d,
                  lt-ltb 0 (job_at s s.chosen).left (omega arith),
                  le-leb s.span (job_at s s.chosen).left f,
                ))

pub ruleset choice_cases = (choice_none, choice_long, choice_idle, choice_unknown, choice_over, choice_short, choice_row)

-- what the check has found of the rows and the clock
pub record Checked (s : Session) (m : List Bool) : Type 0 where
  pub few : s.count ≤ 16
  pub places : length s.words ≡ 48
  pub clock : s.clock ≤ clock_end
  pub rows : (tasks s).rows ≡ s.count
  pub fit : Fit (tasks s)
  pub marks : Marks s m

pub checked_fit : (s : Session) (m : List Bool) (i : ℕ) → Checked s m → i < s.count → Fit (tasks s) × (i < (tasks s).rows)
checked_fit s m i h l = (h.fit, omega (arith, h.rows))

pub job_turn : (s : Session) (m : List Bool) (i : ℕ) (b : Bool) → Checked s m → i < s.count
    → b ≡ sound_in (tasks s) i (job_at s i) (get_or m i false) s.clock → b ≡ sound_job s i
unfolding sound_in sound_job sound_waiting waits most_budget
job_turn s m i b h l e = e ∙ ap (λ (x : Bool). sound_in (tasks s) i (job_at s i) x s.clock) (h.marks.at i l)

-- ---- the whole test

-- ---- the check: which rows are brittle where the session is sound, and none otherwise

abbrev pub Checks : Session → Option (List Bool) → Type 0
Checks s c = MatchOption c (sound s ≡ false) (λ m. (sound s ≡ true) × Marks s m)

pub check_many : (s : Session) → 16 < s.count → sound s ≡ false
unfolding sound sound_rows
check_many s h = simp (lt-leb s.count 16 h)

module _ (s : Session) (few : s.count ≤ 16) (k : Option Admission) (h : KindFor (rows_of s) k) where
  pub check_refused : k ≡ None → sound s ≡ false
  unfolding sound sound_rows
  check_refused is =
      simp (
        le-leb s.count 16 few,
        ne_eqb (opinion_of (rows_of s)).number 0 (kind_none (rows_of s) (sym h.number ∙ ap admitted_as is)),
      )

  module _ (a : Admission) (is : k ≡ Some a) where
    number_is : kind_number a.kind ≡ kind_of (rows_of s)
    number_is = sym (ap admitted_as is) ∙ h.number

    answer_is : ((opinion_of (rows_of s)).number ≡ 0) × ((opinion_of (rows_of s)).first ≡ kind_number a.kind)
    answer_is =
        let o = kind_some (rows_of s) (λ z. kind_some_number a.kind (number_is ∙ z)) in
        (o.0, o.1 ∙ sym number_is)

    brittle_are : a.brittle ≡ marks_of (tasks s)
    brittle_are = rw is at h.brittle

    -- and which rows are brittle
    pub marks_are : length s.words ≡ 48 → Marks s a.brittle
    marks_are p = record {
      at = λ i l. ap (λ (x : List Bool). get_or x i false) brittle_are
          ∙ marks_at (tasks s) i (opinion_fit (rows_of s) answer_is.0) (omega (arith, rows_count s few p));
    }

    pub check_kind : (n : ℕ) → n ≡ kind_number a.kind → (n ≡ s.kind → ⊥) → sound s ≡ false
    unfolding sound sound_rows
    check_kind n q other =
        simp (
          le-leb s.count 16 few,
          eq-eqb (opinion_of (rows_of s)).number 0 answer_is.0,
          ne_eqb (opinion_of (rows_of s)).first s.kind (λ e. other (q ∙ sym answer_is.1 ∙ e)),
        )

    module _ (n : ℕ) (q : n ≡ kind_number a.kind) (same : n ≡ s.kind) where
      rows_sound : sound_rows s ≡ true
      unfolding sound_rows
      rows_sound =
          simp (
            le-leb s.count 16 few,
            eq-eqb (opinion_of (rows_of s)).number 0 answer_is.0,
            eq-eqb (opinion_of (rows_of s)).first s.kind (answer_is.1 ∙ sym q ∙ same),
          )

      pub check_clock : clock_end < s.clock → sound s ≡ false
      unfolding sound
      check_clock l = simp (rows_sound, lt-leb s.clock clock_end l)

      module _ (u : s.clock ≤ clock_end) where
        pub check_ready : length s.words ≡ 48 → Checked s a.brittle
        check_ready p = record {
          few = few;
          places = p;
          clock = u;
          rows = rows_count s few p;
          fit = opinion_fit (rows_of s) answer_is.0;
          marks = marks_are p;
        }

        module _ (b : Bool) (e : b ≡ all_to (sound_job s) s.count) where
          pub check_jobs : b ≡ false → sound s ≡ false
          unfolding sound
          check_jobs f = simp (rows_sound, le-leb s.clock clock_end u, sym e ∙ f)

          module _ (t : b ≡ true) (x : Bool) (g : x ≡ sound_choice s) where
            check_rest : x ≡ sound s
            unfolding sound
            check_rest = g ∙ sym (simp (rows_sound, le-leb s.clock clock_end u, sym e ∙ t))

            pub check_choice : x ≡ false → sound s ≡ false
            check_choice f = sym check_rest ∙ f

            pub check_sound : x ≡ true → sound s ≡ true
            check_sound f = sym check_rest ∙ f

pub ruleset check_cases = (check_many, check_refused, check_kind, check_clock, marks_are, check_jobs, check_choice, check_sound)
