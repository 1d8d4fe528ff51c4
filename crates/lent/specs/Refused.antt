-- A refused call leaves the record as it was, and so does a refused start (docs/SPECIFICATION.md §5.8). Assumes nothing.
use Rattle.std.specs.Prelude.{◌≡◌, refl, ℕ, true, Result, Ok, Err, is_err, List}
use Rattle.std.proofs.Common.{sym, ap, ◌∙◌, true≢false}
use Rattle.bounded.specs.Tests.{both}
use Rattle.table.specs.Verdict.{Opinion, opinion_of}
use Rattle.table.specs.declared.Judgement.{Judgement}
use Rattle.table.specs.declared.Refusal.{Refusal}
use Rattle.table.specs.Opinion as opinion
use Rattle.session.specs.declared.Session.{Session}
use Rattle.session.specs.declared.Answer.{Answer}
use Rattle.session.specs.declared.Outcome.{Outcome}
use Rattle.session.specs.Sound.{sound}
use Rattle.session.specs.Calls.{shown}
use Rattle.session.specs.Start.{start_of, start_same}
use Rattle.guarantee.specs.Ledger.{Call}
use Rattle.guarantee.specs.Statement.{outcome_of}
use Rattle.guarantee.specs.Effects.{Effect, refusal, arrived, chosen, advanced, finished, effect_of, unsound_refused}
use Rattle.lent.specs.declared.Reply.{Reply}
use Rattle.lent.specs.Reply.{reply_of}

effect_same : {s s' : Session} {c : Call} {a : Answer} → Effect s c s' a → ((shown a).number ≡ 0 → ⊥) → s' ≡ s
effect_same (refusal a h) ne = refl
effect_same (arrived k row ready) ne = absurd (ne refl)
effect_same (chosen w) ne = absurd (ne refl)
effect_same (advanced n ch high end) ne = absurd (ne refl)
effect_same (finished ch r) ne = absurd (ne refl)

-- s the record at entry, s' at exit, r what is answered
pub refused_same : (s s' : Session) (c : Call) (r : Reply) → r ≡ reply_of (outcome_of s c) → s' ≡ (outcome_of s c).session
    → ((shown r.answer).number ≡ 0 → ⊥) → s' ≡ s
refused_same s s' c r e f ne =
    f ∙ both (sound s) (λ t. effect_same (effect_of s t c) (λ z. ne (ap (λ (x : Reply). (shown x.answer).number) e ∙ z)))
    (λ u. ap (λ (o : Outcome). o.session) (unsound_refused s c u))

pub start_refused_same : (s s' : Session) (l : List ℕ) (r : Result Judgement Refusal) → opinion.Says r (opinion_of l) → s' ≡ start_of s l
    → ((opinion.shown_of r).number ≡ 0 → ⊥) → s' ≡ s
start_refused_same s s' l r h f ne = f ∙ start_same s l (λ z. ne (h.number ∙ z))

-- ---- the code

-- so a refused start need not write the record
pub start_kept : (s : Session) (l : List ℕ) (r : Result Judgement Refusal) → opinion.shown_of r ≡ opinion_of l → is_err r ≡ true → start_of s l ≡ s
start_kept s l (Ok j) h z = absurd (true≢false (sym z))
start_kept s l (Err e) h z = start_same s l (λ n. opinion.refusal_some e (ap (λ (o : Opinion). o.number) h ∙ n))
