-- Where the demand is at most t for every t up to the end, the earliest deadline first holds. Assumes nothing.
use Rattle.std.specs.Prelude.{ℕ, zero, suc, ◌+◌, ◌-◌, ◌≤◌, ◌<◌, ◌≡◌, refl, ◌⊎◌}
use Rattle.std.proofs.Common.{sym, inl, inr, ⊎_elim, arith}
use Rattle.std.proofs.Math.Logic.{dite}
use Rattle.std.proofs.Math.Decide.{dec_le, dec_lt, ℕ_discrete}
use Rattle.edf.specs.Demand.{TaskSet, Lawful, demand}
use Rattle.edf.specs.State.{load, WellFormed, load_has}
use Rattle.edf.proofs.StateLaws.{load_free}
use Rattle.edf.specs.Arrivals.{Tick, to, none}
use Rattle.game.specs.Game.{Position, Waits, opening, released, MayPlay, played, Missed, Forces, Exceeds}
use Rattle.game.specs.Tick.{state_of, waits_is, is_waits, tick_clock, tick_job, run_less, tick_formed, opening_load, opening_formed}
use Rattle.game.proofs.TickLaws.{released_load, released_formed}

-- by each d up to the end there is time for the load
abbrev SlackTo : TaskSet → ℕ → Position → Type 0
SlackTo τ end p = (d : ℕ) → p.clock ≤ d → d ≤ end → p.clock + load τ (state_of p) d ≤ d

-- the demand is at most t for every t up to n
abbrev FeasibleTo : TaskSet → ℕ → Type 0
FeasibleTo τ n = (t : ℕ) → t ≤ n → demand τ t ≤ t

-- row k's job is a head of the first n rows
record Leads (p : Position) (n k : ℕ) : Type 0 where
  row : k < n
  waits : Waits p k
  first : (i : ℕ) → i < n → Waits p i → p.due k ≤ p.due i

abbrev NoneWaits : Position → ℕ → Type 0
NoneWaits p n = (i : ℕ) → i < n → Waits p i → ⊥

-- there is a head, or no job waits
head_or : (p : Position) (n : ℕ) → ((k : ℕ) × Leads p n k) ⊎ NoneWaits p n
head_or p zero = inr (λ i l w. absurd (omega arith))
head_or p (suc n) =
    dite (dec_le 1 (p.left n))
    (λ w. ⊎_elim (λ (h : (k : ℕ) × Leads p n k). inl (sooner w h.0 h.1))
    (λ (idle : NoneWaits p n). inl (
      n,
      record {
        row = omega arith;
        waits = w;
        first = λ i l v. dite (ℕ_discrete i n) (λ e. rw e (omega arith)) (λ ne. absurd (idle i (omega arith) v));
      },
    ))
    (head_or p n))
    (λ w. ⊎_elim (λ (h : (k : ℕ) × Leads p n k). inl (
      h.0,
      record {
        row = omega (arith, h.1.row);
        waits = h.1.waits;
        first = λ i l v. dite (ℕ_discrete i n) (λ e. absurd (w (rw (sym e) v))) (λ ne. h.1.first i (omega arith) v);
      },
    ))
    (λ (idle : NoneWaits p n). inr (λ i l v. dite (ℕ_discrete i n) (λ e. w (rw (sym e) v)) (λ ne. idle i (omega arith) v)))
    (head_or p n))
  where
    sooner : Waits p n → (k : ℕ) → Leads p n k → (j : ℕ) × Leads p (suc n) j
    sooner w k h =
        dite (dec_lt (p.due n) (p.due k))
        (λ q. (
          n,
          record {
            row = omega arith;
            waits = w;
            first = λ i l v. dite (ℕ_discrete i n) (λ e. rw e (omega arith)) (λ ne. omega (arith, h.first i (omega arith) v));
          },
        ))
        (λ q. (
          k,
          record {
            row = omega (arith, h.row);
            waits = h.waits;
            first = λ i l v. dite (ℕ_discrete i n) (λ e. rw e (omega arith)) (λ ne. h.first i (omega arith) v);
          },
        ))

-- a move that keeps the slack
record Keeps (τ : TaskSet) (end : ℕ) (p : Position) (m : Tick) : Type 0 where
  may : MayPlay τ p m
  slack : SlackTo τ end (played m p)

module _ (τ : TaskSet) (ok : Lawful τ) (end : ℕ) (fe : FeasibleTo τ end) (p : Position) (sl : SlackTo τ end p) where
  -- where no job that waits after the tick is due by d, only jobs to come are
  free : (q : Position) → q.clock ≡ p.clock + 1 → (d : ℕ) → q.clock ≤ d → d ≤ end → ((i : ℕ) → i < τ.rows → Waits q i → d < q.due i)
      → q.clock + load τ (state_of q) d ≤ d
  free q c d lo hi ahead =
      omega (
        arith,
        load_free τ ok (state_of q) d (λ i l w. ahead i l (is_waits q i w)),
        fe (d - q.clock) (omega arith),
      )

  head_keeps : (k : ℕ) → Leads p τ.rows k → Keeps τ end p (to k)
  head_keeps k h = record {
    may = (h.row, h.waits);
    slack = λ d lo hi. dite (dec_le (p.due k) d)
        (λ q. omega (arith, run_less τ ok p k h.row h.waits d q, sl d (omega arith) hi))
        (λ q. free (played (to k) p) refl d lo hi (λ i l w. omega (arith, h.first i l (tick_job (to k) p i w).waited)));
  }

  idle_keeps : NoneWaits p τ.rows → Keeps τ end p none
  idle_keeps idle = record {
    may = tt;
    slack = λ d lo hi. free (played none p) refl d lo hi (λ i l w. absurd (idle i l w));
  }

  keeps : (m : Tick) × Keeps τ end p m
  keeps = ⊎_elim (λ (h : (k : ℕ) × Leads p τ.rows k). (to h.0, head_keeps h.0 h.1)) (λ idle. (none, idle_keeps idle)) (head_or p τ.rows)

-- with time for the load by the clock, no job is unfinished at its deadline
slack_none : (τ : TaskSet) → Lawful τ → (p : Position) → p.clock + load τ (state_of p) p.clock ≤ p.clock → Missed τ p → ⊥
slack_none τ ok p h a =
    omega (arith, load_has τ ok (state_of p) p.clock a.0 a.1 (waits_is p a.0 a.2) a.3, a.2)

holds : (τ : TaskSet) → Lawful τ → (end : ℕ) → FeasibleTo τ end
    → (n : ℕ) (p : Position) → WellFormed τ (state_of p) → SlackTo τ end p → p.clock + n ≤ end → Forces τ n p → ⊥
holds τ ok end fe zero p formed sl h f = f
holds τ ok end fe (suc n) p formed sl h f =
    let r = f.0 in
    let legal = f.1 in
    let q = released τ r p in
    let formed₁ = released_formed τ ok p formed r legal in
    let k = keeps τ ok end fe q (λ d lo hi. omega (arith, released_load τ ok p formed r legal d, sl d lo hi)) in
    let m = k.0 in
    let c : (played m q).clock ≡ p.clock + 1 = tick_clock m q in
    let met : Missed τ (played m q) → ⊥ = slack_none τ ok (played m q) (k.1.slack (played m q).clock (omega arith) (omega arith)) in
    ⊎_elim met
    (λ g. ⊎_elim met
    (λ formed₂. holds τ ok end fe n (played m q) formed₂ k.1.slack (omega arith) g)
    (tick_formed τ m q formed₁))
    (f.2 m k.1.may)

-- some t up to n has a demand above it, or none has
exceeds_or : (τ : TaskSet) (n : ℕ) → Exceeds τ n ⊎ FeasibleTo τ n
exceeds_or τ zero =
    dite (dec_lt 0 (demand τ 0)) (λ q. inl (0, omega arith, q)) (λ q. inr (λ t l. let e : t ≡ 0 = omega arith in rw e (omega arith)))
exceeds_or τ (suc n) =
    ⊎_elim (λ (e : Exceeds τ n). inl (e.0, omega (arith, e.1), e.2))
    (λ (fe : FeasibleTo τ n). dite (dec_lt (suc n) (demand τ (suc n))) (λ q. inl (suc n, omega arith, q))
    (λ q. inr (λ t l. dite (ℕ_discrete t (suc n)) (λ e. rw e (omega arith)) (λ ne. fe t (omega arith)))))
    (exceeds_or τ n)

pub forces_exceeds : (τ : TaskSet) → Lawful τ → (n : ℕ) → Forces τ n opening → Exceeds τ n
forces_exceeds τ ok n f =
    ⊎_elim (λ e. e)
    (λ (fe : FeasibleTo τ n).
    absurd (holds τ ok n fe n opening (opening_formed τ) (λ d lo hi. omega (arith, opening_load τ d, fe d hi)) (omega arith) f))
    (exceeds_or τ n)
