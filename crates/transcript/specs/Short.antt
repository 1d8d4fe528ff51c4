-- No line of calls prints more than 22 bytes for each byte that it takes. Assumes nothing.
use Rattle.std.specs.Prelude.{ℕ, ◌*◌, ◌≤◌, ◌<◌, ◌^◌, ◌≡◌, false, List, ltb, eqb, length}
use Rattle.std.proofs.Common.{true≢false, ⊎_elim, ltb-true}
use native.Mathlib.Omega.{arith}
use Rattle.bounded.specs.Tests.{both}
use Rattle.decimal.specs.Decimal.{decimal_short}
use Rattle.lines.specs.declared.read.Call.{Call}
use Rattle.lines.specs.declared.read.Call.TheVariants.{Arrive, Choose, Advance, Finish}
use Rattle.lines.specs.declared.read.Line.{Line}
use Rattle.lines.specs.declared.read.Line.TheVariants.{Row, Word, Call as CallLine, Empty, Unreadable}
use Rattle.lines.specs.Lines.{least_size}
use Rattle.lines.specs.Text.{line_length}
use Rattle.table.specs.Rows.{horizon}
use Rattle.session.specs.declared.Session.{Session}
use Rattle.session.specs.declared.Answer.{Answer}
use Rattle.session.specs.declared.Answer.TheVariants.{Arrived, Chosen, Advanced, Finished, Unsound, NoRow, TooEarly, InForce, NoChoice, BadStep, Idling, ClockEnd}
use Rattle.session.specs.Reading.{idle}
use Rattle.session.specs.Calls.{shown, choose_of, choose_in, finish_of, finish_in}
use Rattle.session.specs.Facts.{facts_of}
use Rattle.guarantee.specs.KeepsChoice.{in_force, running}
use Rattle.guarantee.specs.Exact.{span_some}
use Rattle.transcript.specs.Step.{queue_limit, call_of, answer_text, step_of}
use Rattle.transcript.specs.Kept.{Kept, kept_call}

-- ---- the values of an answer

number_small : (a : Answer) → (shown a).number ≤ 12
number_small (Arrived row due) = omega arith
number_small (Chosen row span) = omega arith
number_small (Advanced left over) = omega arith
number_small (Finished row unused) = omega arith
number_small Unsound = omega arith
number_small (NoRow row) = omega arith
number_small (TooEarly row next) = omega arith
number_small (InForce left) = omega arith
number_small NoChoice = omega arith
number_small (BadStep left) = omega arith
number_small Idling = omega arith
number_small ClockEnd = omega arith

-- both values are no more than the horizon
pub record Small (a : Answer) : Type 0 where
  pub first : (shown a).first ≤ horizon
  pub second : (shown a).second ≤ horizon

-- what a choice in force names and how long it lasts
chosen_small : (s : Session) → Kept s → 1 ≤ s.span → (s.chosen ≤ horizon) × (s.span ≤ horizon)
chosen_small s g h =
    let f = facts_of s g.sound in
    ⊎_elim (λ z. absurd (omega arith))
    (λ c. (⊎_elim (λ e. omega arith) (λ r. omega (arith, r.known, f.few)) c.runs, c.small)) f.choice

choose_small : (s : Session) → Kept s → (q : List ℕ) → Small (choose_of s q).answer
unfolding call_of choose_of choose_in
choose_small s g q =
    both (ltb 0 s.span)
    (λ e. let k = chosen_small s g (ltb-true 0 s.span e) in simp (g.sound, e) record { first = k.1; second = omega arith })
    (λ e.
    let after : Kept (choose_of s q).session = kept_call s g q Choose in
    let k = chosen_small (choose_of s q).session after (simp (g.sound, e) (span_some s (facts_of s g.sound) q)) in
    let m = simp (g.sound, e) at k in
    simp (g.sound, e) record { first = m.0; second = m.1 })

finish_small : (s : Session) → Kept s → Small (finish_of s).answer
unfolding finish_of finish_in
finish_small s g =
    both (eqb s.span 0) (λ e. simp (g.sound, e) record { first = omega arith; second = omega arith })
    (λ e.
    both (eqb s.chosen idle) (λ f. simp (g.sound, e, f) record { first = omega arith; second = omega arith })
    (λ f.
    let r = running s (in_force s g.sound e) f in
    let facts = facts_of s g.sound in
    let w = facts.job s.chosen r.known r.waiting in
    let rule = g.fit.row s.chosen (omega (arith, r.known, g.count)) in
    simp (g.sound, e, f) record { first = omega (arith, r.known, facts.few); second = omega (arith, w.most, rule) }))

-- ---- the text of a line

clock_short : (s : Session) → Kept s → (q : List ℕ) (c : Call) → (call_of s q c).session.clock < 10 ^ 16
clock_short s g q c = omega (arith, (facts_of (call_of s q c).session (kept_call s g q c).sound).clock)

-- numbers of so many digits
module _ (clock letter : ℕ) (a : Answer) (h : clock < 10 ^ 16) (v : Small a) where
  answer_short : length (answer_text clock letter a) ≤ 44
  unfolding answer_text
  answer_short =
      omega (
        arith,
        line_length clock letter (shown a).number (shown a).first (shown a).second,
        decimal_short 15 clock h,
        decimal_short 1 (shown a).number (omega (arith, number_small a)),
        decimal_short 6 (shown a).first (omega (arith, v.first)),
        decimal_short 6 (shown a).second (omega (arith, v.second)),
      )

-- a line that does not end the output takes enough bytes
pub open_short : (s : Session) → Kept s → (q : List ℕ) (n : ℕ) (x : Line) → (step_of s q n x).ends ≡ false → length (step_of s q n x).text ≤ 86
    → length (step_of s q n x).text ≤ 22 * least_size x
unfolding step_of call_of
open_short s g q n (Row c t d) e h = absurd (true≢false e)
open_short s g q n (Word w) e h =
    both (ltb (length q) queue_limit) (λ f. simp f (omega arith)) (λ f. absurd (true≢false (simp f at e)))
open_short s g q n (CallLine (Arrive row)) e h = omega arith
open_short s g q n (CallLine Choose) e h =
    omega (arith, answer_short (choose_of s q).session.clock 71 (choose_of s q).answer (clock_short s g q Choose) (choose_small s g q))
open_short s g q n (CallLine (Advance k)) e h = omega arith
open_short s g q n (CallLine Finish) e h =
    omega (arith, answer_short (finish_of s).session.clock 70 (finish_of s).answer (clock_short s g q Finish) (finish_small s g))
open_short s g q n Empty e h = absurd (true≢false e)
open_short s g q n Unreadable e h = absurd (true≢false e)
