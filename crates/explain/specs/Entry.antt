-- The entries: the parts of an explanation, and its text (src/lib.rt). Assumes nothing.
use Rattle.std.specs.Prelude.{ℕ, ◌≤◌, ◌<◌, ◌≡◌, true, false, List, Result, Ok, Err}
use Rattle.std.proofs.Math.Path.{sym, ap}
use Rattle.std.proofs.Common.{◌∙◌, arith}
use Rattle.std.proofs.Math.ListN.{length}
use borrow.Author.Tests.{lt-ltb, le-ltb}
use Rattle.decimal.specs.Buffer.{Wrote}
use Rattle.session.specs.declared.Session.{Session}
use Rattle.session.specs.declared.Answer.TheVariants.{Chosen, Unsound, InForce}
use Rattle.session.specs.Sound.{sound}
use Rattle.session.specs.Order.{waiting_count}
use Rattle.choice.specs.Agree.{sound_few}
use Rattle.wording.specs.declared.Parts.{Parts}
use Rattle.wording.specs.Explanation.{no_parts, held_in}
use Rattle.wording.specs.Layout.{held_parts}
use Rattle.wording.specs.Text.{text_of}
use Rattle.explain.specs.declared.parts.Account.{Account}
use Rattle.explain.specs.declared.Explained.{Explained}
use Rattle.explain.specs.declared.Told.{Told}
use Rattle.explain.specs.declared.Untold.{Untold}
use Rattle.explain.specs.declared.Untold.TheVariants.{Unsound as NotSound, InForce as Running, Short}
use Rattle.explain.specs.Explain.{explanation_of, explain_in, explain_of, told_in, buffer_in, told_of, buffer_of}
use Rattle.explain.specs.Account.{account_of_lem, waiting_few, held_length}

module _ (s : Session) (l : List ℕ) where
  -- ---- the parts

  pub explain_running : (p : Parts) → p ≡ no_parts → 0 < s.span → record { answer = InForce s.span; used = 0; parts = p } ≡ explain_in s l
  unfolding explain_in
  explain_running p e h = rw e (sym (simp (lt-ltb 0 s.span h)))

  pub explain_chosen : (a : Account) → a ≡ account_of_lem s l → s.span ≤ 0
      → record { answer = Chosen a.parts.chosen a.parts.span; used = a.used; parts = a.parts } ≡ explain_in s l
  unfolding explain_in account_of_lem
  explain_chosen a e h = rw e (sym (simp (le-ltb 0 s.span h)))

  pub explain_sound : (r : Explained) → sound s ≡ true → r ≡ explain_in s l → r ≡ explain_of s l
  unfolding explain_of
  explain_sound r t e = e ∙ sym (simp t)

  pub explain_unsound : (p : Parts) → p ≡ no_parts → sound s ≡ false → record { answer = Unsound; used = 0; parts = p } ≡ explain_of s l
  unfolding explain_of
  explain_unsound p e f = rw e (sym (simp f))

  -- ---- the text

  module _ (a : Account) (e : a ≡ account_of_lem s l) where
    -- there is room for 16 jobs at most
    pub account_few : sound s ≡ true → a.parts.count ≤ 16
    unfolding account_of_lem explanation_of
    account_few h = rw e (omega (arith, held_length s (waiting_count s), waiting_few s, sound_few s h))

    told_text : text_of (held_in a.parts) ≡ text_of (explanation_of s l)
    unfolding account_of_lem
    told_text = rw e (ap text_of (held_parts (explanation_of s l)))

    pub text_put : (d b : List ℕ) (at r : ℕ) → Wrote 1951 (text_of (held_in a.parts)) d b at r → Wrote 1951 (text_of (explanation_of s l)) d b at r
    text_put d b at r w = rw told_text at w

    -- what is said of it, and the buffer
    module _ (d b : List ℕ) (r : ℕ) (z : s.span ≤ 0) (h : 2048 ≤ length d) (w : Wrote 1951 (text_of (held_in a.parts)) d b 0 r) where
      pub said_text : Ok (record { length = r; used = a.used }) ≡ told_in s l (length d)
      unfolding told_in account_of_lem
      said_text =
          let p : r ≡ length (text_of (explanation_of s l)) = omega (arith, (text_put d b 0 r w).place) in
          let u : a.used ≡ (account_of_lem s l).used = ap (λ (y : Account). y.used) e in
          rw (p, u) (sym (simp (le-ltb 0 s.span z, le-ltb (length d) 2048 h)))

      pub left_text : b ≡ buffer_in s l d
      unfolding buffer_in
      left_text = (text_put d b 0 r w).buffer ∙ sym (simp (le-ltb 0 s.span z, le-ltb (length d) 2048 h))

  module _ (d : List ℕ) where
    pub said_running : 0 < s.span → Err (Running s.span) ≡ told_in s l (length d)
    unfolding told_in
    said_running h = sym (simp (lt-ltb 0 s.span h))

    pub left_running : 0 < s.span → d ≡ buffer_in s l d
    unfolding buffer_in
    left_running h = sym (simp (lt-ltb 0 s.span h))

    pub said_short : s.span ≤ 0 → length d < 2048 → Err (Short (length d)) ≡ told_in s l (length d)
    unfolding told_in
    said_short z h = sym (simp (le-ltb 0 s.span z, lt-ltb (length d) 2048 h))

    pub left_short : s.span ≤ 0 → length d < 2048 → d ≡ buffer_in s l d
    unfolding buffer_in
    left_short z h = sym (simp (le-ltb 0 s.span z, lt-ltb (length d) 2048 h))

    pub said_sound : (r : Result Told Untold) → sound s ≡ true → r ≡ told_in s l (length d) → r ≡ told_of s l (length d)
    unfolding told_of
    said_sound r t e = e ∙ sym (simp t)

    pub left_sound : (b : List ℕ) → sound s ≡ true → b ≡ buffer_in s l d → b ≡ buffer_of s l d
    unfolding buffer_of
    left_sound b t e = e ∙ sym (simp t)

    pub said_unsound : sound s ≡ false → Err NotSound ≡ told_of s l (length d)
    unfolding told_of
    said_unsound f = sym (simp f)

    pub left_unsound : sound s ≡ false → d ≡ buffer_of s l d
    unfolding buffer_of
    left_unsound f = sym (simp f)

pub ruleset explain_cases = (explain_running, explain_chosen, explain_sound, explain_unsound)

pub ruleset text_laws = (account_few, text_put)

pub ruleset tell_cases = (said_text, left_text, said_running, left_running, said_short, left_short)

pub ruleset told_cases = (said_sound, left_sound, said_unsound, left_unsound)
