-- What a release and a tick do to the load, to jobs that are well formed, and to deadlines. Assumes nothing.
use Rattle.std.specs.Prelude.{ℕ, zero, suc, ◌+◌, ◌-◌, ◌*◌, max, ◌≤◌, ◌<◌, ◌≡◌, true, ◌⊎◌, ltb}
use Rattle.std.proofs.Math.Path.{refl, ap}
use Rattle.std.proofs.Common.{sym, true≢false, inl, inr, ⊎_elim, lt-ltb, ltb-true, ltb-false, eq-eqb, ne_eqb}
use Rattle.std.proofs.Math.Logic.{dite}
use native.Mathlib.Omega.{arith}
use Rattle.std.proofs.Math.Decide.{dec_le, ℕ_discrete}
use Rattle.bounded.specs.Sum.{sum_eq, sum_le_at}
use Rattle.bounded.specs.Tests.{both}
use Rattle.edf.specs.Jobs.{jobs_by_lem, jobs_none}
use Rattle.edf.specs.Demand.{TaskSet, Lawful, row_demand_lem, demand}
use Rattle.edf.specs.State.{State, soonest, pending, to_come, row_load, load, WellFormed, Same, pending_in, pending_idle, pending_later, pending_le, pending_same}
use Rattle.edf.proofs.StateLaws.{load_less}
use Rattle.edf.specs.Arrivals.{Tick, to, none}
use Rattle.game.specs.Game.{Position, Waits, opening, MayPlay, played, Missed}

-- the position as a state of the scheduler; no job has a budget
abbrev pub state_of : Position → State
state_of p = record {
  clock = p.clock;
  next = p.next;
  due = p.due;
  left = p.left;
  budget = λ i. 0;
  waits = λ i. ltb 0 (p.left i);
}

pub waits_is : (p : Position) (i : ℕ) → Waits p i → (state_of p).waits i ≡ true
waits_is p i w = lt-ltb 0 (p.left i) w

pub is_waits : (p : Position) (i : ℕ) → (state_of p).waits i ≡ true → Waits p i
is_waits p i e = ltb-true 0 (p.left i) e

-- ---- a tick

pub tick_clock : (m : Tick) (p : Position) → (played m p).clock ≡ p.clock + 1
tick_clock (to k) p = refl
tick_clock none p = refl

-- a job that waits after the tick waited before it, with the same deadline
pub record Still (p q : Position) (i : ℕ) : Type 0 where
  pub waited : Waits p i
  pub due : q.due i ≡ p.due i
  pub next : q.next i ≡ p.next i
  pub less : q.left i ≤ p.left i

pub tick_job : (m : Tick) (p : Position) (i : ℕ) → Waits (played m p) i → Still p (played m p) i
tick_job (to k) p i v =
    dite (ℕ_discrete i k)
    (λ e.
    let t = eq-eqb i k e in
    let x : 1 ≤ p.left i - 1 = simp t at v in
    record { waited = omega arith; due = refl; next = refl; less = simp t (omega arith) })
    (λ ne. let t = ne_eqb i k ne in record { waited = simp t at v; due = refl; next = refl; less = simp t (omega arith) })
tick_job none p i v = record { waited = v; due = refl; next = refl; less = omega arith }

-- a row that the tick does not go to
other_row : (k : ℕ) (p : Position) (i : ℕ) → ¬ (i ≡ k) → Same (state_of p) (state_of (played (to k) p)) i
other_row k p i ne = let e = ne_eqb i k ne in record { next = refl; due = refl; left = simp e; waits = simp e }

pub played_left : (k : ℕ) (p : Position) → (played (to k) p).left k ≡ p.left k - 1
played_left k p = simp (eq-eqb k k refl)

-- no job of row i can be released before the next tick, or none that is released from now on is due by d
abbrev pub Past : TaskSet → Position → ℕ → ℕ → Type 0
Past τ p d i = (p.clock < p.next i) ⊎ (d < p.clock + τ.D i)

-- then a tick leaves as many jobs to come
come_same : (D T d c n : ℕ) → 1 ≤ D → (c < n) ⊎ (d < c + D) → jobs_by_lem D T (d - max (c + 1) n) ≡ jobs_by_lem D T (d - max c n)
come_same D T d c n some =
    ⊎_elim (λ (h : c < n). let e : d - max (c + 1) n ≡ d - max c n = omega arith in rw e)
    (λ (h : d < c + D). rw (jobs_none D T (d - max (c + 1) n) (omega arith), jobs_none D T (d - max c n) (omega arith)))

module _ (τ : TaskSet) (ok : Lawful τ) (p : Position) (d : ℕ) (far : (i : ℕ) → i < τ.rows → Past τ p d i) where
  -- the load by d falls by 1 at most
  row_same : (q : Position) → q.clock ≡ p.clock + 1 → (i : ℕ) → i < τ.rows → Same (state_of p) (state_of q) i
      → row_load τ (state_of p) d i ≡ row_load τ (state_of q) d i
  unfolding to_come
  row_same q c i l same =
      rw (pending_same (state_of p) (state_of q) d i same, c, same.next)
      (ap (λ (x : ℕ). pending (state_of p) d i + τ.C i * x) (sym (come_same (τ.D i) (τ.T i) d p.clock (p.next i) (omega (arith, ok i l)) (far i l))))

  run_pending : (k : ℕ) → Waits p k → pending (state_of p) d k ≤ pending (state_of (played (to k) p)) d k + 1
  run_pending k w =
      dite (dec_le (p.due k) d)
      (λ h. both (ltb 0 ((played (to k) p).left k))
      (λ e. omega (
        arith,
        pending_in (state_of p) d k (waits_is p k w) h,
        pending_in (state_of (played (to k) p)) d k e h,
        played_left k p,
      ))
      (λ e. omega (
        arith,
        pending_in (state_of p) d k (waits_is p k w) h,
        ltb-false 0 ((played (to k) p).left k) e,
        played_left k p,
      )))
      (λ h. omega (arith, pending_later (state_of p) d k (omega arith)))

  pub tick_most : (m : Tick) → MayPlay τ p m → load τ (state_of p) d ≤ load τ (state_of (played m p)) d + 1
  unfolding load to_come
  tick_most (to k) may =
      let q = played (to k) p in
      omega (
        arith,
        sum_le_at (row_load τ (state_of p) d) (row_load τ (state_of q) d) τ.rows k may.0
            (λ i l ne. rw (row_same q refl i l (other_row k p i ne)) (omega arith)),
        run_pending k may.1,
        ap (λ (x : ℕ). τ.C k * x)
            (come_same (τ.D k) (τ.T k) d p.clock (p.next k) (omega (arith, ok k may.0)) (far k may.0)),
      )
  tick_most none may =
      omega (
        arith,
        sum_eq (row_load τ (state_of p) d) (row_load τ (state_of (played none p)) d) τ.rows
            (λ i l. row_same (played none p) refl i l (record { next = refl; due = refl; left = refl; waits = refl })),
      )

-- where a job of row k runs, the load by each d from its deadline on falls by 1
pub run_less : (τ : TaskSet) → Lawful τ → (p : Position) (k : ℕ) → k < τ.rows → Waits p k → (d : ℕ) → p.due k ≤ d
    → load τ (state_of (played (to k) p)) d + 1 ≤ load τ (state_of p) d
run_less τ ok p k row w d h =
    load_less τ ok (state_of p) (state_of (played (to k) p)) (omega arith) k row (λ i l ne. other_row k p i ne) (omega arith) d 1
    (omega (arith, pending_le (state_of (played (to k) p)) d k, played_left k p, pending_in (state_of p) d k (waits_is p k w) h))

-- ---- deadlines

-- a job is unfinished at its deadline, or every job of the first n rows has its deadline ahead
missed_or : (τ : TaskSet) (p : Position) (n : ℕ) → n ≤ τ.rows
    → Missed τ p ⊎ ((i : ℕ) → i < n → Waits p i → p.clock < p.due i)
missed_or τ p zero h = inr (λ i l. absurd (omega arith))
missed_or τ p (suc n) h =
    ⊎_elim (λ a. inl a)
    (λ (all : (i : ℕ) → i < n → Waits p i → p.clock < p.due i).
    dite (dec_le 1 (p.left n))
    (λ w. dite (dec_le (p.due n) p.clock) (λ q. inl (n, omega arith, w, q))
    (λ q. inr (λ i l v. dite (ℕ_discrete i n) (λ e. rw e (omega arith)) (λ ne. all i (omega arith) v))))
    (λ w. inr (λ i l v. dite (ℕ_discrete i n) (λ e. absurd (w (rw (sym e) v))) (λ ne. all i (omega arith) v))))
    (missed_or τ p n (omega arith))

-- jobs stay well formed in a tick, unless one is unfinished at its deadline
pub tick_formed : (τ : TaskSet) (m : Tick) (p : Position) → WellFormed τ (state_of p) → Missed τ (played m p) ⊎ WellFormed τ (state_of (played m p))
tick_formed τ m p formed =
    ⊎_elim (λ a. inl a)
    (λ (ahead : (i : ℕ) → i < τ.rows → Waits (played m p) i → (played m p).clock < (played m p).due i).
    inr (λ i l w.
    let v = is_waits (played m p) i w in
    let t = tick_job m p i v in
    let g = formed i l (waits_is p i t.waited) in
    record {
      some = v;
      most = omega (arith, t.less, g.most);
      deadline = omega (arith, t.due, t.next, g.deadline);
      ahead = ahead i l v;
    }))
    (missed_or τ (played m p) τ.rows (omega arith))

-- ---- before the first tick the load by t is the demand at t

pub opening_load : (τ : TaskSet) (t : ℕ) → load τ (state_of opening) t ≡ demand τ t
unfolding load demand to_come
opening_load τ t =
    sum_eq (row_load τ (state_of opening) t) (row_demand_lem τ t) τ.rows
    (λ i l.
    let e : t - soonest (state_of opening) i ≡ t = omega arith in
    rw (pending_idle (state_of opening) t i refl, e) (omega arith))

pub opening_formed : (τ : TaskSet) → WellFormed τ (state_of opening)
opening_formed τ i l w = absurd (true≢false (sym w))
