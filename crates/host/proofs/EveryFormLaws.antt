-- The theorems of Forms.antt: the form changes no answer. Assumes nothing.
use Rattle.std.specs.Prelude.{◌≡◌, refl, List, [], ◌∷◌, map}
use Rattle.session.specs.declared.Session.{Session}
use Rattle.session.specs.Calls.{shown}
use Rattle.session.specs.Start.{start_of}
use Rattle.guarantee.specs.Ledger.{Call}
use Rattle.guarantee.specs.Statement.{outcome_of, HostCall, single, batch, session_by, events_by, session_from, events_of}
use Rattle.guarantee.specs.Keeps.{never_five}
use Rattle.guarantee.proofs.GuaranteeLaws.{no_job_late}
use Rattle.guarantee.proofs.RespondsLaws.{how_late}
use Rattle.host.specs.Reply.{in_numbers}
use Rattle.host.specs.Forms.{Form, by_value, lent, exported, answer_in, events_by_form, events_in, NoJobLateAnyForm, HowLateAnyForm, NeverFiveAnyForm}

same_answer : (f : Form) (s : Session) (c : Call) → answer_in f s c ≡ shown (outcome_of s c).answer
unfolding in_numbers
same_answer by_value s c = refl
same_answer lent s c = refl
same_answer exported s c = refl

same_by : (f : Form) (s : Session) (c : HostCall) → events_by_form f s c ≡ events_by s c
same_by f s (single c) = rw (same_answer f s c)
same_by f s (batch l) = refl

abbrev calls_of : List (Form × HostCall) → List HostCall
calls_of l = map (λ (c : Form × HostCall). c.1) l

same_events : (s : Session) (calls : List (Form × HostCall)) → events_in s calls ≡ events_of s (calls_of calls)
unfolding events_in events_of
same_events s [] = refl
same_events s (c ∷ l) = rw (same_by c.0 s c.1, same_events (session_by s c.1) l)

pub no_job_late_any_form : NoJobLateAnyForm
no_job_late_any_form l e s₀ calls = rw (same_events (start_of s₀ l) calls) (no_job_late l e s₀ (calls_of calls))

pub how_late_any_form : HowLateAnyForm
how_late_any_form l e s₀ calls = rw (same_events (start_of s₀ l) calls) (how_late l e s₀ (calls_of calls))

pub never_five_any_form : NeverFiveAnyForm
never_five_any_form l e s₀ calls f c = rw (same_by f (session_from s₀ l calls) c) (never_five l e s₀ calls c)
