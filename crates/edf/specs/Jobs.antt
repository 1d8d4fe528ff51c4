-- How many jobs of one row fall due by a time, where they arrive as early and as often as they may. Assumes nothing.
use Rattle.std.specs.Prelude.{ℕ, ◌+◌, ◌-◌, ◌/◌, ◌≤◌, ◌<◌, ◌≡◌, leb}
use Rattle.std.proofs.Common.{le-leb}
use Rattle.std.proofs.lemmas.Bool.{lt-leb}
use Rattle.bounded.specs.Tests.{gate, gate_on, gate_off}

-- of the jobs that arrive at 0, T, 2 T, .. and are due D after it, how many are due by t: (t - D) / T, rounded down,
-- plus 1, where D ≤ t, and else 0 (docs/SPECIFICATION.md §2.3; the demand bound function of one task of cost 1)
unfoldable pub jobs_by_lem : ℕ → ℕ → ℕ → ℕ
jobs_by_lem D T t = gate (leb D t) ((t - D) / T + 1)

pub jobs_none : (D T t : ℕ) → t < D → jobs_by_lem D T t ≡ 0
unfolding jobs_by_lem
jobs_none D T t l = gate_off (leb D t) _ (lt-leb D t l)

pub jobs_some : (D T t : ℕ) → D ≤ t → jobs_by_lem D T t ≡ (t - D) / T + 1
unfolding jobs_by_lem
jobs_some D T t l = gate_on (leb D t) _ (le-leb D t l)
