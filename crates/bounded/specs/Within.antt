-- A number that the code computed, with a bound that keeps the next sum from wrapping. Assumes nothing.
use Rattle.std.specs.Prelude.{ℕ, ◌≤◌, ◌≡◌, Bool, true, false, not}
use Rattle.std.proofs.Common.{sym, ap, ◌∙◌, arith}
use Rattle.bounded.specs.Tests.{gate, gate_on, gate_off}

-- r is x, and at most b
pub record Within (b x r : ℕ) : Type 0 where
  pub is : r ≡ x
  pub small : r ≤ b

-- a number that the code adds up but where a test passes

pub gate_none : (b x : ℕ) (m : Bool) → m ≡ true → Within b (gate (not m) x) 0
gate_none b x m e = record { is = sym (gate_off (not m) x (ap not e)); small = omega arith }

pub gate_some : (b x r : ℕ) (m : Bool) → m ≡ false → Within b x r → Within b (gate (not m) x) r
gate_some b x r m e w = record { is = w.is ∙ sym (gate_on (not m) x (ap not e)); small = w.small }

pub ruleset gate_cases = (gate_none, gate_some)
