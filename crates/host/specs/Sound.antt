-- Soundness as a number (docs/SPECIFICATION.md §9). Assumes nothing.
use Rattle.std.specs.Prelude.{ℕ, ◌≡◌, refl, Bool, true, false, cond}
use Rattle.std.proofs.Common.{ap, ◌∙◌}
use Rattle.std.specs.Int.{from_bool}
use Rattle.session.specs.declared.Session.{Session}
use Rattle.session.specs.Sound.{sound}

-- ---- definitions

-- 1 where the session is sound, and 0 where it is not
unfoldable pub sound_number_lem : Session → ℕ
sound_number_lem s = cond (sound s) 1 0

-- ---- the code

pub number_is : (s : Session) (b : Bool) (r : ℕ) → b ≡ sound s → r ≡ from_bool b → r ≡ sound_number_lem s
unfolding sound_number_lem
number_is s b r e f = f ∙ ap from_bool e ∙ of_test (sound s)
  where
    of_test : (b : Bool) → from_bool b ≡ cond b 1 0
    of_test true = refl
    of_test false = refl
