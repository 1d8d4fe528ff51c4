-- More laws of specs/Advance.antt: they rest on what a must-fail edit makes false. Assumes nothing.
use Rattle.std.specs.Prelude.{ℕ, ◌+◌, ◌-◌, ◌≤◌, ◌<◌, ◌≡◌, true, false}
use Rattle.std.proofs.Common.{sym, ◌∙◌, true≢false, le_refl, arith, ltb-true}
use Rattle.std.proofs.Math.Logic.{dite}
use Rattle.std.proofs.Math.Decide.{dec_le, dec_lt, ℕ_discrete}
use Rattle.bounded.specs.Tests.{both}
use Rattle.edf.specs.Demand.{TaskSet, Lawful, Feasible}
use Rattle.edf.specs.State.{State, pending, load, WellFormed, Slack, SlackOn, AllSlack, Head, pending_le, pending_in, pending_idle, pending_later, slack_ahead}
use Rattle.edf.proofs.StateLaws.{load_same, load_less, free_slack}
use Rattle.edf.specs.Steps.{Run, Idle}
use Rattle.edf.specs.Advance.{run_waits, idle_waits}

module _ (τ : TaskSet) (ok : Lawful τ) (s s' : State) (k m : ℕ) (st : Run τ k m s s') where
  run_due : (i : ℕ) → i < τ.rows → s'.waits i ≡ true → s'.due i ≡ s.due i
  run_due i l w =
      dite (ℕ_discrete i k) (λ e. let v : s'.waits k ≡ true = rw e at w in rw e (st.due v)) (λ ne. (st.others i l ne).due)

  run_next : (i : ℕ) → i < τ.rows → s'.next i ≡ s.next i
  run_next i l = dite (ℕ_discrete i k) (λ e. rw e st.next) (λ ne. (st.others i l ne).next)

  run_fall : (d n : ℕ) → pending s' d k + n ≤ pending s d k → load τ s' d + n ≤ load τ s d
  run_fall = load_less τ ok s s' (omega arith) k st.row st.others (omega arith)

  -- the load by a time from the running job's deadline on falls by m, and no other grows
  pub run_less : (d : ℕ) → s.due k ≤ d → load τ s' d + m ≤ load τ s d
  run_less d h = run_fall d m (omega (arith, pending_le s' d k, pending_in s d k st.waiting h))

  pub run_le : (d : ℕ) → load τ s' d ≤ load τ s d
  run_le d =
      dite (dec_le (s.due k) d) (λ h. omega (arith, run_less d h))
      (λ h.
      let none : pending s' d k ≡ 0 =
      both (s'.waits k) (λ w. pending_later s' d k (omega (arith, st.due w))) (λ w. pending_idle s' d k w) in
      omega (arith, run_fall d 0 (omega arith)))

  pub run_slack : Slack τ s → Slack τ s'
  run_slack sl i l w =
      let v = (run_waits τ ok s s' k m st) i l w in
      let u = sl i l v in
      rw (run_due i l w)
      (dite (ℕ_discrete i k)
      (λ e.
      let x : s'.waits k ≡ true = rw e at w in
      rw e (omega (arith, run_less (s.due k) (le_refl (s.due k)), sl k st.row st.waiting, st.budget x)))
      (λ ne. dite (dec_lt (s.due i) (s.due k))
      (λ h. omega (arith, run_le (s.due i), st.earlier i l ne v h))
      (λ h. omega (arith, run_less (s.due i) (omega arith), st.later i l ne v (omega arith)))))

  run_left : WellFormed τ s → (i : ℕ) → i < τ.rows → s'.waits i ≡ true → (1 ≤ s'.left i) × (s'.left i ≤ s.left i)
  run_left formed i l w =
      dite (ℕ_discrete i k)
      (λ e.
      let v : s'.waits k ≡ true = rw e at w in
      rw e (omega (arith, ltb-true 0 (s.left k - m) (sym st.waits ∙ v))))
      (λ ne. omega (arith, formed i l ((run_waits τ ok s s' k m st) i l w), st.others i l ne))

  pub run_formed : WellFormed τ s → Slack τ s → WellFormed τ s'
  run_formed formed sl i l w =
      let g = formed i l ((run_waits τ ok s s' k m st) i l w) in
      let r = run_left formed i l w in
      record {
        some = r.0;
        most = omega arith;
        deadline = omega (arith, run_due i l w, run_next i l);
        ahead = slack_ahead τ ok s' (run_slack sl) i l w r.0;
      }

  -- by each time from the running job's deadline on there is time for the load, as before
  pub run_near : (W W' : ℕ → Type 0) → ((d : ℕ) → W' d → (W d) × (s.due k ≤ d)) → SlackOn τ s W → SlackOn τ s' W'
  run_near W W' sub al d v h =
      let r = sub d v in
      omega (arith, run_less d r.1, al d r.0 (omega arith))

  -- and by each earlier time, where the running job is a head and the demand is never above t
  pub run_head : Feasible τ → Head τ s k → (W W' : ℕ → Type 0) → ((d : ℕ) → W' d → W d) → SlackOn τ s W → SlackOn τ s' W'
  run_head fe head W W' sub al d v h =
      dite (dec_le (s.due k) d)
      (λ p. omega (arith, run_less d p, al d (sub d v) (omega arith)))
      (λ p. free_slack τ ok fe s' d (λ i l w. omega (arith, run_due i l w, head i l ((run_waits τ ok s s' k m st) i l w))) h)

module _ (τ : TaskSet) (ok : Lawful τ) (s s' : State) (m : ℕ) (st : Idle τ m s s') where
  pub idle_slack : Slack τ s → Slack τ s'
  idle_slack sl i l w =
      let v = (idle_waits τ ok s s' m st) i l w in
      let e = st.others i l in
      rw e.due (omega (arith, load_same τ ok s s' (omega arith) st.others (s.due i), sl i l v, st.budgets i l v))

  pub idle_formed : WellFormed τ s → Slack τ s → WellFormed τ s'
  idle_formed formed sl i l w =
      let g = formed i l ((idle_waits τ ok s s' m st) i l w) in
      let e = st.others i l in
      let h : 1 ≤ s'.left i = omega arith in
      record { some = h; most = omega arith; deadline = omega arith; ahead = slack_ahead τ ok s' (idle_slack sl) i l w h }

  -- where no job waits and the demand is never above t, there is time for the load by each time
  pub idle_all : Feasible τ → ((i : ℕ) → i < τ.rows → s.waits i ≡ false) → AllSlack τ s'
  idle_all fe none d h =
      free_slack τ ok fe s' d (λ i l w. absurd (true≢false (sym ((idle_waits τ ok s s' m st) i l w) ∙ none i l))) h
