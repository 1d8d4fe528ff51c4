-- More laws of specs/Stands.antt: they rest on what a must-fail edit makes false. Assumes nothing.
use Rattle.std.specs.Prelude.{◌≡◌, ℕ, zero, suc, ◌+◌, ◌-◌, ◌<◌, ◌≤◌, min, Bool, true, false, cond, not, ◌&&◌, ◌⊎◌, List, ◌∷◌, length, ◌==◌, nat_le, slice_set}
use Rattle.std.proofs.Math.Path.{refl, ap}
use Rattle.std.proofs.Common.{sym, ◌∙◌, true≢false, get_or-set_same, get_or-set_other}
use Rattle.std.proofs.Math.Logic.{dite, inl, inr, ⊎_elim}
use native.Mathlib.Omega.{arith}
use Rattle.std.proofs.Math.Decide.{dec_lt, ℕ_discrete}
use borrow.Author.Tests.{leb-false, ltb-false, lt-ltb, le-ltb}
use Rattle.bounded.specs.Tests.{both, gate, gate_on, gate_off}
use Rattle.bounded.specs.Sum.{sum_to, sum_eq, sum_eq_at}
use Rattle.bounded.specs.Fold.{fold_to}
use Rattle.bounded.specs.Least.{least_before}
use Rattle.table.specs.Rows.{horizon}
use Rattle.lines.specs.declared.read.Call.TheVariants.{Arrive, Advance}
use Rattle.lines.specs.declared.read.Line.{Line}
use Rattle.lines.specs.declared.read.Line.TheVariants.{Call as CallLine}
use Rattle.session.specs.declared.Job.{Job}
use Rattle.session.specs.declared.Session.{Session}
use Rattle.session.specs.Reading.{no_job, job_at, tasks}
use Rattle.session.specs.Calls.{changed, arrived_job, arrived_of, arrive_of, jobs_with, aged_job, stepped_of, advance_of}
use Rattle.session.specs.Facts.{Choice, facts_of}
use Rattle.guarantee.specs.Ledger.{arrive, advance}
use Rattle.guarantee.specs.Good.{Good, good_places}
use Rattle.guarantee.specs.Keeps.{good_call}
use Rattle.guarantee.specs.KeepsJobs.{aged_passed, aged_worked}
use Rattle.workload.specs.Table.{row_count, table_of}
use Rattle.workload.specs.Trial.{Trial, ready_row_lem, ready, until_next_lem}
use Rattle.workload.specs.Statement.{count_of}
use Rattle.workload.specs.Stands.{next_at, running, ready_row, until_le, arrive_is, advance_is, Stand, rows, sound_is, period, until_few}

module _ (f : ℕ → ℕ) (b : ℕ) where
  abbrev least_of : ℕ → ℕ
  least_of n = fold_to (λ m i. min m (f i)) b n

  least_one : (n : ℕ) → (least_of n ≡ b) ⊎ ((i : ℕ) × (i < n) × (least_of n ≡ f i))
  unfolding fold_to
  least_one zero = inl refl
  least_one (suc n) =
      dite (dec_lt (f n) (least_of n)) (λ h. inr (n, omega arith, omega arith))
      (λ h. ⊎_elim (λ e. inl (omega arith))
      (λ (p : (i : ℕ) × (i < n) × (least_of n ≡ f i)). inr (p.0, omega (arith, p.1), omega (arith, p.2))) (least_one n))

and_zero : (b : Bool) → (b && false) ≡ false
and_zero true = refl
and_zero false = refl

module _ (s : Session) where
  not_ready : ready s ≡ false → (i : ℕ) → i < s.count → s.clock < (job_at s i).next
  unfolding ready ready_row_lem
  not_ready e i l =
      leb-false (job_at s i).next s.clock
      (least_before (λ i. nat_le (job_at s i).next s.clock) 0 s.count i (omega arith) (omega (arith, ltb-false (ready_row_lem s) s.count e)))

  pub row_ready : (i : ℕ) → i < s.count → (job_at s i).next ≤ s.clock → ready s ≡ true
  row_ready i l h = both (ready s) (λ e. e) (λ e. absurd (omega (arith, not_ready e i l)))

  abbrev UntilRow : Type 0
  UntilRow = (i : ℕ) × (i < s.count) × (until_next_lem s ≡ (job_at s i).next - s.clock)

  until_one : (until_next_lem s ≡ horizon) ⊎ UntilRow
  unfolding until_next_lem
  until_one = least_one (λ i. (job_at s i).next - s.clock) horizon s.count

module _ (seed : ℕ) (x : Trial) (done : List Line) (h : Stand seed x done) where
  abbrev n : ℕ
  n = row_count seed

  abbrev s : Session
  s = x.session

  -- `A`: the row's earliest next arrival is now
  module _ (e : ready s ≡ true) where
    abbrev k : ℕ
    k = ready_row_lem s

    abbrev after : Session
    after = changed s s.clock (slice_set s.jobs k (arrived_job s k)) 0 0

    known : k < s.count
    known = (ready_row s e).0

    now_is : next_at s k ≡ s.clock
    unfolding next_at
    now_is = omega (arith, (ready_row s e).1, h.behind k (omega (arith, known, (rows seed x done h))))

    arrive_next : next_at after k ≡ s.clock + (tasks s).T k
    unfolding next_at
    arrive_next =
        ap (λ (j : Job). j.next) (get_or-set_same s.jobs k (arrived_job s k) no_job (omega (arith, known, good_places h.good)))

    arrive_other : (i : ℕ) → ¬ (i ≡ k) → next_at after i ≡ next_at s i
    unfolding next_at
    arrive_other i ne = ap (λ (j : Job). j.next) (get_or-set_other s.jobs k i (arrived_job s k) no_job ne)

    arrive_sum : sum_to (next_at after) n ≡ sum_to (next_at s) n + (tasks s).T k
    arrive_sum =
        omega (
          arith,
          now_is,
          arrive_next,
          sum_eq_at (next_at s) (next_at after) n k (omega (arith, known, (rows seed x done h))) (λ i p ne. sym (arrive_other i ne)),
        )

    not_given : x.given ≡ false
    not_given = both x.given (λ t. absurd (true≢false (sym e ∙ (h.calm t).0))) (λ f. f)

    pub arrived_is : arrive_of s k ≡ arrived_of s k
    arrived_is = arrive_is s (sound_is seed x done h) k known (ready_row s e).1

    pub arrives : Stand seed (record { session = after; queue = x.queue; number = x.number; given = x.given }) (CallLine (Arrive k) ∷ done)
    unfolding count_of gate
    arrives =
        let p = (period seed x done h) k (omega (arith, known, (rows seed x done h))) in
        record {
          good = ap_good (good_call (table_of seed) s h.good (arrive k));
          behind = λ i u. dite (ℕ_discrete i k) (λ z. rw z (omega (arith, arrive_next))) (λ ne. omega (arith, arrive_other i ne, h.behind i u));
          least = omega (arith, arrive_sum, h.least, p);
          most = omega (arith, arrive_sum, h.most, p);
          ticks = omega (arith, h.ticks);
          far = omega (arith, h.far);
          words = omega (arith, h.words);
          runs = omega (arith, h.runs, gate_off (running s) 1 (simp e), gate_off (running after) 1 (and_zero (not (ready after))));
          calm = λ t. absurd (true≢false (sym t ∙ not_given));
          queue = omega (arith, h.queue);
          all = omega (arith, h.all);
          finishes = omega (arith, h.finishes);
        }
      where
        ap_good : Good (table_of seed) (arrive_of s k).session → Good (table_of seed) after
        ap_good g = rw arrived_is at g

  -- `R`: no row may arrive, and a choice is in force
  module _ (e : ready s ≡ false) (some : 1 ≤ s.span) where
    abbrev m : ℕ
    m = min s.span (until_next_lem s)

    abbrev later : Session
    later = changed s (s.clock + m) (jobs_with s (aged_job s m) s.count) (cond (s.span == m) 0 s.chosen) (s.span - m)

    span_few : s.span ≤ horizon
    span_few = ⊎_elim (λ z. omega arith) (λ (c : Choice s). omega (arith, c.small)) (facts_of s (sound_is seed x done h)).choice

    until_some : 1 ≤ until_next_lem s
    until_some =
        ⊎_elim (λ z. omega arith) (λ (p : UntilRow s). omega (arith, p.2, not_ready s e p.0 p.1)) (until_one s)

    next_same : (i : ℕ) → i < s.count → (job_at later i).next ≡ (job_at s i).next
    next_same i u =
        dite (ℕ_discrete i s.chosen) (λ q. (aged_worked s (good_places h.good) m i u q).next)
        (λ ne. (aged_passed s (good_places h.good) m i u ne).rest.next)

    sum_same : sum_to (next_at later) n ≡ sum_to (next_at s) n
    unfolding next_at
    sum_same = sum_eq (next_at later) (next_at s) n (λ i u. next_same i (omega (arith, (rows seed x done h))))

    -- the span is used up, or a row may arrive now
    ended : running later ≡ false
    ended =
        dite (ℕ_discrete m s.span) (λ q. simp (le-ltb 0 (s.span - m) (omega arith)) (and_zero (not (ready later))))
        (λ ne. ⊎_elim (λ z. absurd (omega (arith, span_few)))
        (λ (p : UntilRow s).
        simp (row_ready later p.0 p.1 (omega (arith, p.2, next_same p.0 p.1, not_ready s e p.0 p.1))))
        (until_one s))

    no_word : x.given ≡ false
    no_word = both x.given (λ t. absurd (omega (arith, (h.calm t).1))) (λ f. f)

    module _ (small : length done ≤ 1000) where
      pub advanced_is : advance_of s m ≡ stepped_of s m
      advanced_is = advance_is s (sound_is seed x done h) m (omega (arith, until_some)) (omega arith) (omega (arith, (until_few seed x done h e some), h.far, h.all))

      pub steps : Stand seed (record { session = later; queue = x.queue; number = x.number; given = x.given }) (CallLine (Advance m) ∷ done)
      unfolding count_of gate next_at
      steps = record {
        good = ap_good (good_call (table_of seed) s h.good (advance m));
        behind = λ i u.
            let l : i < s.count = omega (arith, (rows seed x done h)) in
            omega (arith, next_same i l, until_le s i l, not_ready s e i l);
        least = omega (arith, sum_same, h.least);
        most = omega (arith, sum_same, h.most);
        ticks = omega (arith, h.ticks, until_some);
        far = omega (arith, h.far, (until_few seed x done h e some));
        words = omega (arith, h.words);
        runs = omega (arith, h.runs, gate_off (running later) 1 ended, gate_on (running s) 1 (simp (e, lt-ltb 0 s.span some)));
        calm = λ t. absurd (true≢false (sym t ∙ no_word));
        queue = omega (arith, h.queue);
        all = omega (arith, h.all);
        finishes = omega (arith, h.finishes);
      }
        where
          ap_good : Good (table_of seed) (advance_of s m).session → Good (table_of seed) later
          ap_good g = rw advanced_is at g
