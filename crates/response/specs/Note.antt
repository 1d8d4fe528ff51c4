-- The code of one call. Assumes nothing.
use Rattle.std.specs.Prelude.{ℕ, ◌+◌, ◌-◌, ◌*◌, ◌≤◌, ◌<◌, ◌^◌, ◌≡◌, Bool, true, cond, List, [], eqb, length, get_or, set}
use Rattle.std.proofs.Math.Path.{refl, sym, ap}
use Rattle.std.proofs.Common.{◌∙◌, Fits, eq-eqb, ne_eqb}
use Rattle.std.proofs.Math.Bool.{false}
use Rattle.std.proofs.lemmas.List.{set-get_or}
use native.Mathlib.Omega.{arith}
use Rattle.std.specs.Int.{w64}
use Rattle.bounded.specs.Tests.{gate, gate_on, gate_off}
use Rattle.bounded.specs.Fold.{fold_to, put_start, put_next, put_past, put_length}
use Rattle.decimal.specs.Buffer.{Wrote, wrote_none}
use Rattle.edf.specs.Demand.{TaskSet}
use Rattle.lines.specs.declared.read.Call.{Call}
use Rattle.lines.specs.declared.read.Call.TheVariants.{Arrive, Choose, Advance, Finish}
use Rattle.lines.specs.declared.read.Line.{Line}
use Rattle.lines.specs.declared.read.Line.TheVariants.{Call as CallLine}
use Rattle.table.specs.Rows.{horizon}
use Rattle.session.specs.declared.Session.{Session}
use Rattle.session.specs.declared.Numbers.{Numbers}
use Rattle.session.specs.declared.Outcome.{Outcome}
use Rattle.session.specs.Reading.{clock_end, job_at, ahead}
use Rattle.session.specs.Sound.{sound}
use Rattle.session.specs.Ahead.{ahead_by, ahead_is}
use Rattle.session.specs.Calls.{Shown, Shows, shown, three}
use Rattle.calls.specs.Code.{ChoiceBounds, place_of, place_due}
use Rattle.transcript.specs.declared.step.Play.{Play}
use Rattle.transcript.specs.Step.{call_of, step_of}
use Rattle.transcript.specs.Kept.{as_call}
use Rattle.transcript.specs.Play.{queue_of, words_in, Ready, Did, Aside, call_used}
use Rattle.transcript.specs.Moves.{Passes, passed_by}
use Rattle.response.specs.Jobs.{line_by_lem, job_text, ended_by}
use Rattle.response.specs.Watch.{aged, tallied}
use Rattle.response.specs.Put.{LegibleRow, Legible}

-- ---- `aged`

-- n ticks of a choice in force add up to no number that wraps
pub record Ageing (s : Session) (xs : List ℕ) (n : ℕ) : Type 0 where
  pub bounds : ChoiceBounds s
  pub small : (i : ℕ) → get_or xs i 0 ≤ clock_end
  pub ticks : n ≤ horizon

-- the first i rows
abbrev pub aged_to : Session → List ℕ → ℕ → ℕ → List ℕ
aged_to s xs n i = fold_to (λ v j. set v j (get_or xs j 0 + gate (ahead s s.chosen j) n)) xs i

module _ (s : Session) (xs : List ℕ) (n : ℕ) (g : Ageing s xs n) where
  pub aged_start : xs ≡ aged_to s xs n 0
  aged_start = put_start (λ j. get_or xs j 0 + gate (ahead s s.chosen j) n) xs

  module _ (i : ℕ) (v : List ℕ) (e : v ≡ aged_to s xs n i) where
    still : get_or v i 0 ≡ get_or xs i 0
    still = ap (λ (l : List ℕ). get_or l i 0) e ∙ put_past (λ j. get_or xs j 0 + gate (ahead s s.chosen j) n) xs i 0 i (omega arith)

    pub aged_length : length v ≡ length xs
    aged_length = ap length e ∙ put_length (λ j. get_or xs j 0 + gate (ahead s s.chosen j) n) xs i

    pub aged_fits : (m : ℕ) → 9223372036854775807 < m → get_or v i 0 + n < m
    aged_fits m l = omega (arith, still, g.small i, g.ticks)

    module _ (at : ℕ) (b : Bool) (place : at ≡ place_of s.chosen) (f : b ≡ ahead_by (job_at s i) s.chosen (job_at s at).due) where
      next : (x : ℕ) → x ≡ gate b n → set v i (get_or v i 0 + x) ≡ aged_to s xs n (i + 1)
      next x h =
          put_next (λ j. get_or xs j 0 + gate (ahead s s.chosen j) n) xs v i (get_or v i 0 + x) e
          (rw (still, h, f, ahead_is s s.chosen (job_at s at).due (place_due s at g.bounds place) i))

      pub aged_next : b ≡ true → set v i (get_or v i 0 + n) ≡ aged_to s xs n (i + 1)
      aged_next t = next n (sym (gate_on b n t))

      pub aged_stays : b ≡ false → v ≡ aged_to s xs n (i + 1)
      aged_stays t =
          let z : get_or v i 0 + 0 ≡ get_or v i 0 = omega arith in
          sym (set-get_or v i 0) ∙ ap (set v i) (sym z) ∙ next 0 (sym (gate_off b n t))

  pub aged_done : (rows i : ℕ) (v : List ℕ) → v ≡ aged_to s xs n i → rows ≡ s.count → i ≤ rows → rows ≤ i → v ≡ aged s xs n
  unfolding aged
  aged_done rows i v e is l h = let k : i ≡ s.count = omega arith in e ∙ ap (aged_to s xs n) k

pub ruleset aged_laws = (aged_start, aged_length, aged_fits, aged_next, aged_stays, aged_done)

-- ---- `tally` and `ends`; they do not look at the words of a choice

abbrev pub tally_by : Session → Call → ℕ → List ℕ → List ℕ
tally_by s c number xs = tallied s (as_call [] c) number xs

abbrev pub ends_by : Call → ℕ → ℕ → Bool
ends_by c number second = ended_by (as_call [] c) (three number 0 second)

tally_words : (s : Session) (q : List ℕ) (c : Call) (number : ℕ) (xs : List ℕ) → tallied s (as_call q c) number xs ≡ tally_by s c number xs
unfolding tallied
tally_words s q (Arrive row) number xs = refl
tally_words s q Choose number xs = refl
tally_words s q (Advance n) number xs = refl
tally_words s q Finish number xs = refl

pub ends_words : (q : List ℕ) (c : Call) (a : Shown) → ended_by (as_call q c) a ≡ ends_by c a.number a.second
unfolding ended_by
ends_words q (Arrive row) a = refl
ends_words q Choose a = refl
ends_words q (Advance n) a = refl
ends_words q Finish a = refl

-- an accepted arrive is of a row, and accepted ticks are of a choice in force
pub record Tallying (s : Session) (c : Call) (number : ℕ) (xs : List ℕ) : Type 0 where
  pub row : (row : ℕ) → c ≡ Arrive row → number ≡ 0 → row < 16
  pub ageing : (n : ℕ) → c ≡ Advance n → number ≡ 0 → Ageing s xs n

module _ (s : Session) (c : Call) (number : ℕ) (xs : List ℕ) where
  pub tally_refused : (number ≡ 0 → ⊥) → xs ≡ tally_by s c number xs
  unfolding tallied
  tally_refused ne = by c
    where
      by : (c : Call) → xs ≡ tally_by s c number xs
      by (Arrive row) = sym (simp (ne_eqb number 0 ne))
      by Choose = refl
      by (Advance n) = sym (simp (ne_eqb number 0 ne))
      by Finish = refl

  pub tally_arrive : (row : ℕ) → number ≡ 0 → c ≡ Arrive row → set xs row 0 ≡ tally_by s c number xs
  unfolding tallied
  tally_arrive row z e = rw e (sym (simp (eq-eqb number 0 z)))

  pub tally_choose : c ≡ Choose → xs ≡ tally_by s c number xs
  unfolding tallied
  tally_choose e = rw e refl

  pub tally_advance : (n k : ℕ) (r : List ℕ) → number ≡ 0 → c ≡ Advance n → k ≡ n → r ≡ aged s xs k → r ≡ tally_by s c number xs
  unfolding tallied
  tally_advance n k r z e f g = g ∙ rw (e, ← f) (sym (simp (eq-eqb number 0 z)))

  pub tally_finish : c ≡ Finish → xs ≡ tally_by s c number xs
  unfolding tallied
  tally_finish e = rw e refl

  module _ (g : Tallying s c number xs) where
    pub tally_row : (row : ℕ) → c ≡ Arrive row → number ≡ 0 → row < 16
    tally_row row e z = g.row row e z

    pub tally_ageing : (n k : ℕ) → c ≡ Advance n → number ≡ 0 → k ≡ n → Ageing s xs k
    tally_ageing n k e z f = rw f (g.ageing n e z)

pub ruleset tally_cases = (tally_refused, tally_arrive, tally_choose, tally_advance, tally_finish, tally_row, tally_ageing)

module _ (c : Call) (number second : ℕ) where
  pub ends_refused : (number ≡ 0 → ⊥) → false ≡ ends_by c number second
  unfolding ended_by
  ends_refused ne = by c
    where
      by : (c : Call) → false ≡ ends_by c number second
      by (Arrive row) = refl
      by Choose = refl
      by (Advance n) = sym (simp (ne_eqb number 0 ne))
      by Finish = sym (ne_eqb number 0 ne)

  pub ends_arrive : (row : ℕ) → c ≡ Arrive row → false ≡ ends_by c number second
  unfolding ended_by
  ends_arrive row e = rw e refl

  pub ends_choose : c ≡ Choose → false ≡ ends_by c number second
  unfolding ended_by
  ends_choose e = rw e refl

  pub ends_advance : (n : ℕ) → number ≡ 0 → c ≡ Advance n → eqb second 1 ≡ ends_by c number second
  unfolding ended_by
  ends_advance n z e = rw e (sym (simp (eq-eqb number 0 z)))

  pub ends_finish : number ≡ 0 → c ≡ Finish → true ≡ ends_by c number second
  unfolding ended_by
  ends_finish z e = rw e (sym (eq-eqb number 0 z))

pub ruleset ends_cases = (ends_refused, ends_arrive, ends_choose, ends_advance, ends_finish)

-- ---- `put_end`

-- where a job is over, it was the chosen row's
pub record Ending (τ : TaskSet) (s : Session) (over : Bool) : Type 0 where
  pub row : over ≡ true → (s.chosen < τ.rows) × (1 ≤ (job_at s s.chosen).left)

unfoldable pub end_text : TaskSet → Session → Bool → ℕ → List ℕ → List ℕ
end_text τ s over clock xs =
    cond over (job_text 69 (line_by_lem τ clock s.chosen ((job_at s s.chosen).due - τ.D s.chosen) (get_or xs s.chosen 0))) []

module _ (τ : TaskSet) (spans : List ℕ) (s : Session) (xs : List ℕ) (g : Legible τ spans s xs) (over : Bool) (n : Ending τ s over) where
  pub end_place : over ≡ true → s.chosen < 16
  end_place e = omega (arith, (n.row e).0, g.fit.few)

  -- and so do the places of its job and of its count, of 32 and of 8 bytes
  pub end_job : over ≡ true → Fits w64 (s.chosen * 32)
  end_job e = record { fits = omega (arith, end_place e) }

  pub end_count : over ≡ true → Fits w64 (s.chosen * 8)
  end_count e = record { fits = omega (arith, end_place e) }

  pub end_row : over ≡ true → LegibleRow τ spans s.chosen (job_at s s.chosen).due (get_or xs s.chosen 0)
  end_row e = g.row s.chosen (n.row e).0 (n.row e).1

  pub end_put : (clock : ℕ) (d a : List ℕ) (at p : ℕ) → over ≡ true
      → Wrote 128 (job_text 69 (line_by_lem τ clock s.chosen ((job_at s s.chosen).due - τ.D s.chosen) (get_or xs s.chosen 0))) d a at p
      → Wrote 128 (end_text τ s over clock xs) d a at p
  unfolding end_text
  end_put clock d a at p e w = simp e w

pub end_none : (τ : TaskSet) (s : Session) (over : Bool) (clock : ℕ) (xs d : List ℕ) (at : ℕ) → over ≡ false → Wrote 128 (end_text τ s over clock xs) d d at at
unfolding end_text
end_none τ s over clock xs d at e = simp e (wrote_none 128 d at)

pub ruleset end_cases = (end_place, end_job, end_count, end_row, end_put, end_none)

-- ---- `note`

-- what the call answers ends a job, or not
abbrev pub over_in : Session → List ℕ → Call → Bool
over_in s q c = ends_by c (shown (call_of s q c).answer).number (shown (call_of s q c).answer).second

pub record Calling (τ : TaskSet) (spans : List ℕ) (s : Session) (xs : List ℕ) (c : Call) (q : List ℕ) (p : Play) (out : List ℕ) : Type 0 where
  pub legible : Legible τ spans s xs
  pub sound : sound s ≡ true
  pub ending : Ending τ s (over_in s q c)
  pub tallying : Tallying s c (shown (call_of s q c).answer).number xs
  pub order : p.from + length q ≤ p.to
  pub count : p.line < 2 ^ 32
  pub room : p.end + 128 ≤ length out

pub record NoteDid (τ : TaskSet) (s : Session) (p : Play) (xs : List ℕ) (c : Call) (q : List ℕ) (s' : Session) (r : Play) (xs' before after : List ℕ) : Type 0 where
  pub session : s' ≡ (call_of s q c).session
  pub counts : xs' ≡ tallied s (as_call q c) (shown (call_of s q c).answer).number xs
  pub passes : Passes (call_of s q c).used p r
  pub wrote : Wrote 128 (end_text τ s (over_in s q c) (call_of s q c).session.clock xs) before after p.end r.end

module _ (τ : TaskSet) (spans : List ℕ) (s : Session) (xs : List ℕ) (c : Call) (q : List ℕ) (p : Play) (out : List ℕ) (g : Calling τ spans s xs c q p out)
    (o : Outcome) (e : o ≡ call_of s q c) (n : Numbers) (sh : Shows (shown o.answer) n) where
  number_is : n.number ≡ (shown (call_of s q c).answer).number
  number_is = sh.number ∙ ap (λ (x : Outcome). (shown x.answer).number) e

  second_is : n.second ≡ (shown (call_of s q c).answer).second
  second_is = sh.second ∙ ap (λ (x : Outcome). (shown x.answer).second) e

  module _ (over : Bool) (b : over ≡ ends_by c n.number n.second) where
    over_is : over ≡ over_in s q c
    over_is = b ∙ rw (number_is, second_is)

    pub note_ending : Ending τ s over
    note_ending = rw over_is g.ending

    pub note_order : p.from + o.used ≤ p.to
    note_order = omega (arith, g.order, call_used s q c, ap (λ (x : Outcome). x.used) e)

    pub note_tallying : Tallying s c n.number xs
    note_tallying = rw number_is g.tallying

    pub note_did : (end : ℕ) (r : Play) (xs' after : List ℕ) → Wrote 128 (end_text τ s over o.session.clock xs) out after p.end end
        → r ≡ passed_by p o.used end → xs' ≡ tally_by s c n.number xs → NoteDid τ s p xs c q o.session r xs' out after
    note_did end r xs' after w k t = record {
      session = ap (λ (x : Outcome). x.session) e;
      counts = t ∙ rw number_is (sym (tally_words s q c (shown (call_of s q c).answer).number xs));
      passes = rw (k, ← e) record { from = refl; to = refl; line = refl; over = refl };
      wrote = rw (k, ← over_is, ← e) w;
    }

pub ruleset note_laws = (note_ending, note_order, note_tallying, note_did)

-- ---- `step`

-- what a line of any kind needs, and what it did
pub record Stepping (τ : TaskSet) (spans : List ℕ) (s : Session) (p : Play) (xs : List ℕ) (x : Line) (words out : List ℕ) : Type 0 where
  pub ready : Ready p words out
  pub place : p.to + words_in x ≤ length words
  pub call : (c : Call) → x ≡ CallLine c → Calling τ spans s xs c (queue_of words p) p out

-- a call, whatever the words are called, or another line
pub data StepDid (τ : TaskSet) (s : Session) (p : Play) (xs : List ℕ) (x : Line) (s' : Session) (r : Play) (xs' words words' before after : List ℕ) : Type 0 where
  called : (c : Call) → x ≡ CallLine c → words' ≡ words → NoteDid τ s p xs c (queue_of words p) s' r xs' before after → StepDid τ s p xs x s' r xs' words words' before after
  aside : ((c : Call) → x ≡ CallLine c → ⊥) → s' ≡ s → xs' ≡ xs → Did (words_in x) (step_of s (queue_of words p) p.line x) s p r words words' before after
      → StepDid τ s p xs x s' r xs' words words' before after

module _ (τ : TaskSet) (spans : List ℕ) (s : Session) (p : Play) (xs : List ℕ) (x : Line) (words out : List ℕ) (g : Stepping τ spans s p xs x words out) where
  pub step_aside : (r : Play) (words' after : List ℕ) → ((c : Call) → x ≡ CallLine c → ⊥) → Aside s.clock x p r words words' out after
      → StepDid τ s p xs x s r xs words words' out after
  step_aside r words' after ne a = aside ne refl refl (a.did ne s refl)

  module _ (c : Call) (is : x ≡ CallLine c) (q : List ℕ) (e : q ≡ queue_of words p) where
    pub step_calling : Calling τ spans s xs c q p out
    step_calling = rw e (g.call c is)

    pub step_called : (s' : Session) (r : Play) (xs' after : List ℕ) → NoteDid τ s p xs c q s' r xs' out after → StepDid τ s p xs x s' r xs' words words out after
    step_called s' r xs' after d = called c is refl (rw e at d)

pub ruleset step_laws = (step_aside, step_calling, step_called)
