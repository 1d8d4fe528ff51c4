-- Every session that a list of calls leads to is sound, so no call answers 5, and no finish is cut (docs/SPECIFICATION.md
-- §6.2); a refused table's record is not sound, so every call answers 5. Assumes nothing.
use Rattle.std.specs.Prelude.{ℕ, ◌<◌, ◌≡◌, refl, true, false, List, [], ◌∷◌, map}
use Rattle.std.proofs.Common.{sym, ap, subst, arith}
use Rattle.table.specs.Verdict.{bad_length, opinion_of}
use Rattle.session.specs.declared.Session.{Session}
use Rattle.session.specs.declared.Answer.{Answer}
use Rattle.session.specs.declared.Arrival.{Arrival}
use Rattle.session.specs.Reading.{rows_of}
use Rattle.session.specs.Sound.{sound_rows, sound}
use Rattle.session.specs.Calls.{shown, three, gains, arrive_of}
use Rattle.session.specs.Batch.{answered, after_all, answered_all}
use Rattle.session.specs.Start.{no_session, start_of, start_same}
use Rattle.guarantee.specs.Ledger.{Call, arrive, finish}
use Rattle.guarantee.specs.Statement.{outcome_of, HostCall, single, batch, session_by, record_event, events_by, session_after, session_from, AlwaysSound, NoFive, NeverFive, UnsoundFive, AlwaysFive, GainsAll, CapCutsNothing}
use Rattle.guarantee.specs.Good.{Good}
use Rattle.guarantee.specs.Effects.{Effect, refusal, arrived, chosen, advanced, finished, effect_of, unsound_refused}
use Rattle.guarantee.specs.KeepsArrive.{good_arrive}
use Rattle.guarantee.specs.KeepsChoose.{good_choose}
use Rattle.guarantee.specs.KeepsAdvance.{good_advance}
use Rattle.guarantee.specs.KeepsFinish.{good_finish, finish_whole}
use Rattle.guarantee.specs.KeepsFresh.{good_fresh}

-- each call, where the table is the rows that the session holds
rows_effect : (s : Session) → Good (rows_of s) s → {c : Call} {s' : Session} {a : Answer} → Effect s c s' a → Good (rows_of s) s'
rows_effect s g (refusal a h) = g
rows_effect s g (arrived k row ready) = good_arrive s g k row ready
rows_effect s g (chosen w) = good_choose s g w
rows_effect s g (advanced n ch high end) = good_advance s g ch n high end
rows_effect s g (finished ch r) = good_finish s g r.known r.waiting

-- and that is so of every good session
pub good_call : (l : List ℕ) (s : Session) → Good l s → (c : Call) → Good l (outcome_of s c).session
good_call l s g c =
    subst (λ (z : List ℕ). Good z s → Good z (outcome_of s c).session) g.rows (λ h. rows_effect s h (effect_of s g.sound c)) g

good_all : (l : List ℕ) (s : Session) → Good l s → (rs : List Arrival) → Good l (after_all s rs)
unfolding after_all
good_all l s g [] = g
good_all l s g (a ∷ rs) = good_all l (arrive_of s a.row).session (good_call l s g (arrive a.row)) rs

pub good_by : (l : List ℕ) (s : Session) → Good l s → (c : HostCall) → Good l (session_by s c)
good_by l s g (single c) = good_call l s g c
good_by l s g (batch rs) = good_all l s g rs

good_after : (l : List ℕ) (s : Session) → Good l s → (calls : List HostCall) → Good l (session_after s calls)
unfolding session_after
good_after l s g [] = g
good_after l s g (c ∷ calls) = good_after l (session_by s c) (good_by l s g c) calls

-- the session reached from a fresh one
pub good_reached : (l : List ℕ) → (opinion_of l).number ≡ 0 → (s₀ : Session) (calls : List HostCall) → Good l (session_from s₀ l calls)
good_reached l e s₀ calls = good_after l (start_of s₀ l) (good_fresh l e s₀) calls

pub always_sound : AlwaysSound
always_sound l e s₀ calls = (good_reached l e s₀ calls).sound

-- a sound session's refusals begin at 6
pub not_five : {s s' : Session} {c : Call} {a : Answer} → Effect s c s' a → (shown a).number ≡ 5 → ⊥
not_five (refusal a h) z = omega arith
not_five (arrived k row ready) z = omega arith
not_five (chosen w) z = omega arith
not_five (advanced n ch high end) z = omega arith
not_five (finished ch r) z = omega arith

-- nor has a record of a batch 5 in its place
none_five : (l : List ℕ) (s : Session) → Good l s → (rs : List Arrival) → NoFive (map record_event (answered_all s rs))
unfolding answered_all
none_five l s g [] = tt
none_five l s g (a ∷ rs) =
    (not_five (effect_of s g.sound (arrive a.row)), none_five l (arrive_of s a.row).session (good_call l s g (arrive a.row)) rs)

no_five : (l : List ℕ) (s : Session) → Good l s → (c : HostCall) → NoFive (events_by s c)
no_five l s g (single c) = (not_five (effect_of s g.sound c), tt)
no_five l s g (batch rs) = none_five l s g rs

pub never_five : NeverFive
never_five l e s₀ calls c = no_five l (session_from s₀ l calls) (good_reached l e s₀ calls) c

-- a finish that is accepted is not cut
pub cap_cuts_nothing : CapCutsNothing
cap_cuts_nothing l e s₀ calls z i h w =
    let g = good_reached l e s₀ calls in
    by (subst (λ (x : List ℕ). Good x (session_from s₀ l calls)) (sym g.rows) g)
    (effect_of (session_from s₀ l calls) g.sound finish) z (omega (arith, g.count)) w
  where
    by : {s s' : Session} {a : Answer} → Good (rows_of s) s → Effect s finish s' a → (shown a).number ≡ 0 → i < s.count → gains s i ≡ true
        → GainsAll s s' a i
    by g (refusal a six) z h w = absurd (omega arith)
    by {s} g (finished ch r) z h w =
        let f = finish_whole s g r.known r.waiting i h w in
        record { fits = omega (arith, f.0); all = omega (arith, f.1) }

-- a record without rows is of no table
none_unsound : sound no_session ≡ false
unfolding sound sound_rows rows_of opinion_of bad_length
none_unsound = refl

pub unsound_five : UnsoundFive
unfolding after_all answered_all
unsound_five s e [] = record { records = refl; session = refl }
unsound_five s e (a ∷ l) =
    let r = unsound_five s e l in
    let o = unsound_refused s (arrive a.row) e in
    record { records = rw o (ap (λ (z : List Arrival). answered a (three 5 0 0) ∷ z) r.records); session = rw o r.session }

pub always_five : AlwaysFive
always_five l ne =
    rw (start_same no_session l ne)
    (record { one = λ c. rw (unsound_refused no_session c none_unsound) (refl, refl, refl); all = unsound_five no_session none_unsound })
