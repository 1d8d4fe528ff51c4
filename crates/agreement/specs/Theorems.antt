-- An explanation agrees with choose, and its text is there and is read back. Assumes nothing.
use Rattle.std.specs.Prelude.{ℕ, ◌+◌, ◌≤◌, ◌≡◌, true, false, List, ◌++◌, ltb, take, Some, Result, Ok, Err, is_ok}
use Rattle.std.proofs.Math.Path.{sym, ap}
use Rattle.std.proofs.Common.{◌∙◌, arith}
use Rattle.std.proofs.lemmas.Bool.{false≢true}
use Rattle.std.proofs.Math.ListN.{length, drop}
use Rattle.std.proofs.Math.Seq.{take_at, drop-append_seam}
use Rattle.bounded.specs.Tests.{both}
use Rattle.decimal.specs.Buffer.{overlay}
use Rattle.session.specs.declared.Session.{Session}
use Rattle.session.specs.Sound.{sound}
use Rattle.session.specs.Choose.{used_of}
use Rattle.session.specs.Calls.{choose_in, choose_of}
use Rattle.wording.specs.Text.{text_of}
use Rattle.wording.specs.Theorems.{text_short}
use Rattle.reader.specs.Reading.{reading_of}
use Rattle.reader.specs.Theorems.{read_text}
use Rattle.explain.specs.declared.Told.{Told}
use Rattle.explain.specs.declared.Untold.{Untold}
use Rattle.explain.specs.declared.Untold.TheVariants.{Unsound, InForce, Short}
use Rattle.explain.specs.Explain.{explanation_of, explain_in, explain_of, told_in, told_of, buffer_in, buffer_of}
use Rattle.agreement.specs.Statement.{AgreesWithChoose, Words, TextStands, Written, RefusedSame, ReadAgain}
use Rattle.agreement.specs.Fitting.{explanation_fits}

pub agrees_with_choose : AgreesWithChoose
unfolding explain_of explain_in choose_of choose_in explanation_of
agrees_with_choose s l =
    both (sound s)
    (λ e. both (ltb 0 s.span)
    (λ r. record { answer = simp (e, r); used = simp (e, r); named = λ z. let n : 8 ≡ 0 = simp (e, r) at z in absurd (omega arith) })
    (λ r. record { answer = simp (e, r); used = simp (e, r); named = λ z. simp (e, r) }))
    (λ e. record { answer = simp e; used = simp e; named = λ z. let n : 5 ≡ 0 = simp e at z in absurd (omega arith) })

-- ---- the text

-- the length of a text, 0 where there is none
abbrev length_in : Result Told Untold → ℕ
length_in (Ok t) = t.length
length_in (Err e) = 0

-- where a text of n bytes is told: the session is sound, no choice is in force, and the buffer is long enough
record Telling (s : Session) (l d : List ℕ) (n : ℕ) : Type 0 where
  is_sound : sound s ≡ true
  idle : ltb 0 s.span ≡ false
  long : ltb (length d) 2048 ≡ false
  size : n ≡ length (text_of (explanation_of s l))

telling : (s : Session) (l d : List ℕ) (t : Told) → told_of s l (length d) ≡ Ok t → Telling s l d t.length
unfolding told_of told_in
telling s l d t q =
    both (sound s)
    (λ e. both (ltb 0 s.span)
    (λ r. let z : Err (InForce s.span) ≡ Ok t = sym (simp (e, r)) ∙ q in absurd (false≢true (ap is_ok z)))
    (λ r. both (ltb (length d) 2048)
    (λ b. let z : Err (Short (length d)) ≡ Ok t = sym (simp (e, r, b)) ∙ q in absurd (false≢true (ap is_ok z)))
    (λ b.
    let z : told_of s l (length d) ≡ Ok (record { length = length (text_of (explanation_of s l)); used = used_of s l }) = simp (e, r, b) in
    record { is_sound = e; idle = r; long = b; size = ap length_in (sym q ∙ z) })))
    (λ e. let z : Err Unsound ≡ Ok t = sym (simp e) ∙ q in absurd (false≢true (ap is_ok z)))

module _ (s : Session) (l d : List ℕ) (t : Told) (ws : Words l) (q : told_of s l (length d) ≡ Ok t) where
  is : Telling s l d t.length
  is = telling s l d t q

  text : List ℕ
  text = text_of (explanation_of s l)

  short : length text ≤ 1951
  unfolding text
  short = text_short (explanation_of s l) (explanation_fits s l is.is_sound ws)

  buffer_is : buffer_of s l d ≡ text ++ drop t.length d
  unfolding buffer_of buffer_in overlay text
  buffer_is = simp (is.is_sound, is.idle, is.long)
      (let q : 0 + length (text_of (explanation_of s l)) ≡ t.length = omega (arith, is.size) in ap (λ (x : ℕ). text_of (explanation_of s l) ++ drop x d) q)

  stands : TextStands s l d t.length
  unfolding text
  stands = record {
    text = ap (take t.length) buffer_is ∙ take_at (text_of (explanation_of s l)) (drop t.length d) t.length (sym is.size);
    rest = ap (drop t.length) buffer_is ∙ rw is.size (drop-append_seam (text_of (explanation_of s l)) _);
    short = omega (arith, is.size, short);
  }

  read_parts : reading_of (take t.length (buffer_of s l d)) ≡ Some (explain_of s l).parts
  unfolding explain_of explain_in
  read_parts =
      ap reading_of stands.text
      ∙ read_text (explanation_of s l) (explanation_fits s l is.is_sound ws)
      ∙ sym (simp (is.is_sound, is.idle))

pub written : Written
written s l d t ws q = stands s l d t ws q

pub read_again : ReadAgain
read_again s l d t ws q = read_parts s l d t ws q

pub refused_same : RefusedSame
unfolding told_of told_in buffer_of buffer_in
refused_same s l d ne =
    both (sound s)
    (λ e. both (ltb 0 s.span) (λ r. simp (e, r))
    (λ r. both (ltb (length d) 2048) (λ b. simp (e, r, b)) (λ b. absurd (ne (simp (e, r, b))))))
    (λ e. simp e)
