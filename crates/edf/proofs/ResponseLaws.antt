-- More laws of specs/Response.antt: they rest on what a must-fail edit makes false. Assumes nothing.
use Rattle.std.specs.Prelude.{ℕ, ◌+◌, ◌≤◌}
use native.Mathlib.Omega.{arith}
use Rattle.edf.specs.Demand.{TaskSet, Lawful}
use Rattle.edf.specs.State.{State, WellFormed}
use Rattle.edf.proofs.StateLaws.{load_same}
use Rattle.edf.specs.Steps.{Arrive, Run, Idle, Over}
use Rattle.edf.proofs.ArriveLaws.{besides_upto, load_arrived, arrive_load}
use Rattle.edf.proofs.AdvanceLaws.{run_less, run_le}
use Rattle.edf.proofs.FinishLaws.{over_le}
use Rattle.edf.specs.Response.{response_of, reach}

-- ---- facts

module _ (τ : TaskSet) (ok : Lawful τ) (s s' : State) where
  module _ (formed : WellFormed τ s) (k b : ℕ) (st : Arrive τ k b s s') where
    -- an arrival changes no reach,
    pub reach_arrive : (d : ℕ) → reach τ s' d ≤ reach τ s d
    unfolding reach
    reach_arrive d = omega (arith, st.clock, arrive_load τ ok s s' formed k b st d)

    -- and that of the new job's deadline is within its response
    pub reach_new : reach τ s' (s.clock + τ.D k) ≤ s.clock + response_of τ k
    unfolding reach response_of
    reach_new =
        let r = ok k st.row in
        omega (
          arith,
          st.clock,
          arrive_load τ ok s s' formed k b st (s.clock + τ.D k),
          load_arrived τ ok s formed k st.row st.ready,
          besides_upto τ ok s formed k (τ.D k) (omega arith),
        )

  module _ (k m : ℕ) (st : Run τ k m s s') (d : ℕ) where
    -- while a job due by d runs, it does not rise;
    pub reach_run : s.due k ≤ d → reach τ s' d ≤ reach τ s d
    unfolding reach
    reach_run h = omega (arith, st.clock, run_less τ ok s s' k m st d h)

    -- while another runs, it rises by the ticks at most;
    pub reach_past : reach τ s' d ≤ reach τ s d + m
    unfolding reach
    reach_past = omega (arith, st.clock, run_le τ ok s s' k m st d)

  -- and so it does while none runs
  pub reach_idle : (m : ℕ) → Idle τ m s s' → (d : ℕ) → reach τ s' d ≤ reach τ s d + m
  unfolding reach
  reach_idle m st d = omega (arith, st.clock, load_same τ ok s s' (omega (arith, st.clock)) st.others d)

  -- a job that is over early leaves less to do
  pub reach_over : (k : ℕ) → Over τ k s s' → (d : ℕ) → reach τ s' d ≤ reach τ s d
  unfolding reach
  reach_over k st d = omega (arith, st.clock, over_le τ ok s s' k st d)
