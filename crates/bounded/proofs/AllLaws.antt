-- More laws of specs/All.antt: they rest on what a must-fail edit makes false. Assumes nothing.
use Rattle.std.specs.Prelude.{ℕ, ◌<◌, ◌≡◌, Bool, false}
use Rattle.std.proofs.Common.{sym, ◌∙◌, true≢false, arith}
use Rattle.bounded.specs.Tests.{both}
use Rattle.bounded.specs.All.{all_to, all_at, all_start, all_next, all_done}

-- the loop's bound n is the length m that the definition names
pub all_fails : (p : ℕ → Bool) (i n m : ℕ) (b : Bool) → i < n → n ≡ m → b ≡ p i → b ≡ false → false ≡ all_to p m
all_fails p i n m b l k e f =
    both (all_to p m) (λ t. absurd (true≢false (sym (all_at p m t i (omega arith)) ∙ sym e ∙ f))) (λ t. sym t)

pub ruleset all_laws = (all_start, all_next, all_fails, all_done)
