-- More laws of specs/Force.antt: they rest on what a must-fail edit makes false. Assumes nothing.
use Rattle.std.specs.Prelude.{ℕ, zero, suc, ◌+◌, ◌-◌, ◌*◌, ◌≤◌, ◌<◌, ◌≡◌, refl, ◌⊎◌}
use Rattle.std.proofs.Common.{ap, arith}
use Rattle.std.proofs.Math.Logic.{dite, inl, inr, ⊎_elim}
use Rattle.std.proofs.Math.Nat.{zero-mod}
use Rattle.std.proofs.Math.Decide.{dec_le, dec_lt, ℕ_discrete}
use Rattle.bounded.specs.Sum.{sum_lt, sum_zero}
use Rattle.bounded.specs.Tests.{both}
use Rattle.edf.specs.Jobs.{jobs_by_lem, jobs_none}
use Rattle.edf.specs.Demand.{TaskSet, Lawful, row_demand_lem, demand}
use Rattle.edf.specs.State.{soonest, pending, to_come, row_load, load, pending_idle, pending_later}
use Rattle.edf.specs.Arrivals.{Tick}
use Rattle.game.specs.Game.{Position, opening, MayPlay, played, Missed, Wins, line_to}
use Rattle.game.specs.Statement.{LineWins}
use Rattle.game.specs.Tick.{state_of, is_waits, tick_clock, tick_most, tick_formed, opening_load, opening_formed}
use Rattle.game.proofs.TickLaws.{released_load, released_formed}
use Rattle.game.specs.Force.{line_moved, line_legal, line_past, line_next, Excess}

-- ---- the load by t is too much, and stays so

-- at t itself, what is left of it is an unfinished job
load_missed : (τ : TaskSet) → Lawful τ → (p : Position) (t : ℕ) → t ≤ p.clock → 0 < load τ (state_of p) t → Missed τ p
unfolding load to_come
load_missed τ ok p t h some =
    let z = sum_zero (λ i. 0) τ.rows (λ i l. refl) in
    let k = sum_lt (λ i. 0) (row_load τ (state_of p) t) τ.rows (omega arith) in
    let i = k.0 in
    let none-due : jobs_by_lem (τ.D i) (τ.T i) (t - soonest (state_of p) i) ≡ 0 =
    jobs_none (τ.D i) (τ.T i) (t - soonest (state_of p) i) (omega (arith, ok i k.1)) in
    let q : 0 < pending (state_of p) t i = omega (arith, k.2, ap (λ (x : ℕ). τ.C i * x) none-due) in
    both ((state_of p).waits i)
    (λ w. dite (dec_le (p.due i) t) (λ d. (i, k.1, is_waits p i w, omega arith)) (λ d. absurd (omega (arith, pending_later (state_of p) t i (omega arith)))))
    (λ w. absurd (omega (arith, pending_idle (state_of p) t i w)))

-- one round: against each play a job is unfinished at its deadline, or that still holds
line_round : (τ : TaskSet) → Lawful τ → (t : ℕ) (p : Position) → Excess τ t p → (m : Tick) → MayPlay τ (line_moved τ t p) m
    → Missed τ (played m (line_moved τ t p)) ⊎ Excess τ t (played m (line_moved τ t p))
line_round τ ok t p x m may =
    let q = line_moved τ t p in
    let legal = line_legal τ ok t p x.on in
    let formed₁ = released_formed τ ok p x.formed (line_to τ t p.clock) legal in
    let c : (played m q).clock ≡ p.clock + 1 = tick_clock m q in
    let still : t < (played m q).clock + load τ (state_of (played m q)) t =
    omega (
      arith,
      c,
      x.over,
      released_load τ ok p x.formed (line_to τ t p.clock) legal t,
      tick_most τ ok q t (line_past τ ok t p x.on) m may,
    ) in
    dite (dec_lt (played m q).clock t)
    (λ b. ⊎_elim (λ a. inl a)
    (λ f. inr (record { formed = f; on = line_next τ ok t p x.on m; before = b; over = still }))
    (tick_formed τ m q formed₁))
    (λ b. inl (load_missed τ ok (played m q) t (omega arith) (omega arith)))

excess_wins : (τ : TaskSet) → Lawful τ → (t n : ℕ) (p : Position) → t ≤ p.clock + n → Excess τ t p → Wins τ (line_to τ t) n p
excess_wins τ ok t zero p h x = absurd (omega (arith, x.before))
excess_wins τ ok t (suc n) p h x = (
  line_legal τ ok t p x.on,
  λ m may. ⊎_elim (λ a. inl a)
      (λ (y : Excess τ t (played m (line_moved τ t p))). inr (excess_wins τ ok t n _ (omega (arith, h, tick_clock m (line_moved τ t p))) y))
      (line_round τ ok t p x m may),
)

-- ---- from the opening

demand_none : (τ : TaskSet) → Lawful τ → demand τ 0 ≡ 0
unfolding demand
demand_none τ ok =
    sum_zero (row_demand_lem τ 0) τ.rows (λ i l. rw (jobs_none (τ.D i) (τ.T i) 0 (omega (arith, ok i l))) (omega arith))

pub line_wins : LineWins
line_wins τ ok n t h over =
    dite (ℕ_discrete t 0)
    (λ z. absurd (omega (arith, over, ap (demand τ) z, demand_none τ ok)))
    (λ ne. excess_wins τ ok t n opening (omega arith) record {
      formed = opening_formed τ;
      on = λ i l. record { multiple = zero-mod (τ.T i); near = omega (arith, ok i l); kept = inl (omega arith) };
      before = omega arith;
      over = omega (arith, over, opening_load τ t);
    })
