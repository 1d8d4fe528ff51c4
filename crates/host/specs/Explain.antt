-- What is said of an explanation's text, in numbers (docs/SPECIFICATION.md §9). Assumes nothing.
use Rattle.std.specs.Prelude.{ℕ, ◌≡◌, Result, Ok, Err}
use Rattle.explain.specs.declared.Told.{Told}
use Rattle.explain.specs.declared.Untold.{Untold}
use Rattle.explain.specs.declared.Untold.TheVariants.{Unsound, InForce, Short}
use Rattle.explain.specs.Explain.{shown_told, used_told}
use Rattle.host.specs.declared.Reply.{Reply}

-- ---- definitions

unfoldable pub telling_reply : Result Told Untold → Reply
telling_reply t = record {
  number = (shown_told t).number;
  used = used_told t;
  first = (shown_told t).first;
  second = (shown_told t).second;
}

-- ---- the code

module _ (t : Result Told Untold) where
  pub telling_text : (x : Told) → t ≡ Ok x → record { number = 0; used = x.used; first = x.length; second = 0 } ≡ telling_reply t
  unfolding telling_reply
  telling_text x e = rw e

  pub telling_unsound : t ≡ Err Unsound → record { number = 5; used = 0; first = 0; second = 0 } ≡ telling_reply t
  unfolding telling_reply
  telling_unsound e = rw e

  pub telling_running : (n : ℕ) → t ≡ Err (InForce n) → record { number = 8; used = 0; first = n; second = 0 } ≡ telling_reply t
  unfolding telling_reply
  telling_running n e = rw e

  pub telling_short : (n : ℕ) → t ≡ Err (Short n) → record { number = 15; used = 0; first = n; second = 0 } ≡ telling_reply t
  unfolding telling_reply
  telling_short n e = rw e

pub ruleset telling_cases = (telling_text, telling_unsound, telling_running, telling_short)
