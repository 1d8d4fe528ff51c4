-- A call is the check of soundness and then its core. Assumes nothing.
use Rattle.std.specs.Prelude.{◌≡◌, Bool, true, false}
use Rattle.std.proofs.Common.{sym, ◌∙◌}
use Rattle.session.specs.declared.Session.{Session}
use Rattle.session.specs.declared.Answer.TheVariants.{Unsound}
use Rattle.session.specs.declared.Outcome.{Outcome}
use Rattle.session.specs.Sound.{sound}
use Rattle.session.specs.Calls.{refused, guarded}

module _ (s : Session) (o x : Outcome) (b : Bool) (e : b ≡ sound s) where
  pub guarded_in : b ≡ true → o ≡ x → o ≡ guarded s x
  guarded_in t h = h ∙ sym (simp (sym e ∙ t))

  pub guarded_out : b ≡ false → o ≡ refused s Unsound → o ≡ guarded s x
  guarded_out f h = h ∙ sym (simp (sym e ∙ f))

-- where the check has found which
module _ (s : Session) (o x : Outcome) where
  pub checked_yes : sound s ≡ true → o ≡ x → o ≡ guarded s x
  checked_yes t h = h ∙ sym (simp t)

  pub checked_no : sound s ≡ false → o ≡ refused s Unsound → o ≡ guarded s x
  checked_no f h = h ∙ sym (simp f)

pub is_sound : (s : Session) (b : Bool) → b ≡ sound s → b ≡ true → sound s ≡ true
is_sound s b e t = sym e ∙ t

pub ruleset guarded_laws = (guarded_in, guarded_out, is_sound)

pub ruleset checked_laws = (checked_yes, checked_no)
