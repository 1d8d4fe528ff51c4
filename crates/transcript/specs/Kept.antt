-- The program's calls are those of the guarantee: the session stays sound, and no call answers 5 (docs/SPECIFICATION.md
-- §8.4). Assumes nothing.
use Rattle.std.specs.Prelude.{ℕ, ◌≡◌, refl, List}
use Rattle.std.proofs.Common.{sym, subst}
use Rattle.lines.specs.declared.read.Call.{Call}
use Rattle.lines.specs.declared.read.Call.TheVariants.{Arrive, Choose, Advance, Finish}
use Rattle.session.specs.declared.Session.{Session}
use Rattle.session.specs.Reading.{rows_of}
use Rattle.session.specs.Calls.{shown}
use Rattle.guarantee.specs.Ledger as ledger
use Rattle.guarantee.specs.Statement.{outcome_of}
use Rattle.guarantee.specs.Good.{Good}
use Rattle.guarantee.specs.Effects.{effect_of}
use Rattle.guarantee.specs.Keeps.{good_call, not_five}
use Rattle.transcript.specs.Step.{call_of}

-- a session that a list of calls from a fresh one leads to, with the table being its own rows
abbrev pub Kept : Session → Type 0
Kept s = Good (rows_of s) s

-- a line's call, with the words that wait, as the guarantee writes it
abbrev pub as_call : List ℕ → Call → ledger.Call
as_call q (Arrive row) = ledger.arrive row
as_call q Choose = ledger.choose q
as_call q (Advance n) = ledger.advance n
as_call q Finish = ledger.finish

pub call_is : (s : Session) (q : List ℕ) (c : Call) → outcome_of s (as_call q c) ≡ call_of s q c
unfolding call_of
call_is s q (Arrive row) = refl
call_is s q Choose = refl
call_is s q (Advance n) = refl
call_is s q Finish = refl

module _ (s : Session) (g : Kept s) (q : List ℕ) (c : Call) where
  pub kept_call : Kept (call_of s q c).session
  kept_call =
      rw (← call_is s q c)
      (let h = good_call (rows_of s) s g (as_call q c) in
      subst (λ (l : List ℕ). Good l (outcome_of s (as_call q c)).session) (sym h.rows) h)

  -- NO 5 IS PRINTED
  pub never_five : (shown (call_of s q c).answer).number ≡ 5 → ⊥
  never_five = rw (← call_is s q c) (not_five (effect_of s g.sound (as_call q c)))
