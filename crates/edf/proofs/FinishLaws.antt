-- More laws of specs/Finish.antt: they rest on what a must-fail edit makes false. Assumes nothing.
use Rattle.std.specs.Prelude.{ℕ, ◌+◌, ◌≤◌, ◌<◌, ◌≡◌, true}
use Rattle.std.proofs.Common.{arith}
use Rattle.std.proofs.Math.Logic.{dite}
use Rattle.std.proofs.Math.Decide.{dec_lt}
use Rattle.edf.specs.Demand.{TaskSet, Lawful, Feasible}
use Rattle.edf.specs.State.{State, pending, load, Slack, SlackOn, AllSlack, Elapsed, pending_idle, pending_in, load_has, on_le}
use Rattle.edf.proofs.StateLaws.{load_less, free_slack}
use Rattle.edf.specs.Steps.{Over, Finish, Start}
use Rattle.edf.specs.Finish.{over_other, over_waits, start_none}

module _ (τ : TaskSet) (ok : Lawful τ) (s s' : State) (k : ℕ) (st : Over τ k s s') where
  over_fall : (d n : ℕ) → pending s' d k + n ≤ pending s d k → load τ s' d + n ≤ load τ s d
  over_fall = load_less τ ok s s' (omega arith) k st.row st.others (omega arith)

  -- the load by a time from its deadline on falls by what was left of it, and no other grows
  pub over_less : (d : ℕ) → s.due k ≤ d → load τ s' d + s.left k ≤ load τ s d
  over_less d h = over_fall d (s.left k) (omega (arith, pending_idle s' d k st.waits, pending_in s d k st.waiting h))

  pub over_le : (d : ℕ) → load τ s' d ≤ load τ s d
  over_le d = omega (arith, over_fall d 0 (omega (arith, pending_idle s' d k st.waits)))

  pub over_on : (W W' : ℕ → Type 0) → ((d : ℕ) → W' d → W d) → SlackOn τ s W → SlackOn τ s' W'
  over_on = on_le τ ok s s' st.clock over_le

module _ (τ : TaskSet) (ok : Lawful τ) (s s' : State) (k : ℕ) where
  -- unused ticks given as budget to jobs of later deadline keep the slack
  pub finish_slack : Finish τ k s s' → Slack τ s → Slack τ s'
  finish_slack f sl i l w =
      let st = f.over in
      let ne = over_other τ ok s s' k st i w in
      let v = over_waits τ ok s s' k st i l w in
      let e = st.others i l ne in
      rw e.due
      (dite (dec_lt (s.due k) (s.due i))
      (λ h. omega (arith, over_less τ ok s s' k st (s.due i) (omega arith), sl i l v, f.later i l ne v h))
      (λ h. omega (arith, over_le τ ok s s' k st (s.due i), sl i l v, f.earlier i l ne v (omega arith))))

  -- and bring no budget above D - C, so that a cap there never cuts anything: by the deadline of a job that gains there is
  -- time for what is left of both jobs and for its budget, and it has run no longer than since its arrival
  pub finish_cap : Over τ k s s' → Slack τ s → Elapsed τ s → (i : ℕ) → i < τ.rows → s'.waits i ≡ true → s.due k ≤ s.due i
      → s.budget i + s.left k + τ.C i ≤ τ.D i
  finish_cap st sl el i l w h =
      let v = over_waits τ ok s s' k st i l w in
      omega (
        arith,
        sl i l v,
        el i l v,
        st.others i l (over_other τ ok s s' k st i w),
        over_less τ ok s s' k st (s.due i) h,
        load_has τ ok s' (s.due i) i l w (omega (arith, st.others i l (over_other τ ok s s' k st i w))),
      )

module _ (τ : TaskSet) (ok : Lawful τ) (s : State) (st : Start τ s) where
  pub start_all : Feasible τ → AllSlack τ s
  start_all fe d h = free_slack τ ok fe s d (λ i l w. (start_none τ ok s st) i l w) h
