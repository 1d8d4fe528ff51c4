-- The deciding word of an explanation is the first that is not passed over. Assumes nothing.
use Rattle.std.specs.Prelude.{ℕ, suc, ◌%◌, ◌^◌, ◌<◌, ◌≡◌, true, false, List, [], ◌∷◌, ◌++◌, None, Option, Some, is_some, unwrap_or}
use Rattle.std.proofs.Math.Path.{sym}
use Rattle.std.proofs.Common.{ap, ◌∙◌, arith, leb-true, leb-false, lt-ltb}
use Rattle.std.proofs.lemmas.Bool.{false≢true}
use Rattle.bounded.specs.Tests.{both}
use Rattle.session.specs.declared.Session.{Session}
use Rattle.session.specs.Order.{head_of, candidates, candidate_at}
use Rattle.session.specs.Choose.{draw_limit, passed_over, draw, drawn, pick_of}
use Rattle.guarantee.specs.Draws.{AllPassed}
use Rattle.explain.specs.Explain.{word_taken, decided_of}
use Rattle.explain.specs.Account.{drawn_then}
use Rattle.agreement.specs.Statement.{WordDecided, NoneDecided, Words}

-- the words of l, parted at the one that a draw between n takes
record Parted (l : List ℕ) (n : ℕ) : Type 0 where
  before : List ℕ
  after : List ℕ
  words : l ≡ before ++ word_taken l n ∷ after
  passed : AllPassed n before
  taken : word_taken l n < draw_limit n
  drawn : draw l n ≡ word_taken l n % n

parted : (l : List ℕ) (n : ℕ) → draw l n < n → Parted l n
unfolding draw word_taken passed_over
parted [] n h = absurd (omega arith)
parted (w ∷ l) n h =
    both (passed_over n w)
    (λ p.
    let r = parted l n (simp p at h) in
    record {
      before = w ∷ r.before;
      after = r.after;
      words = simp p (ap (λ (x : List ℕ). w ∷ x) r.words);
      passed = (leb-true (draw_limit n) w p, r.passed);
      taken = simp p r.taken;
      drawn = simp p r.drawn;
    })
    (λ p. record {
      before = [];
      after = l;
      words = simp p;
      passed = tt;
      taken = simp p (leb-false (draw_limit n) w p);
      drawn = simp p;
    })

module _ (s : Session) (l : List ℕ) where
  pub decided_drawn : (w : ℕ) → decided_of s l ≡ Some w → (drawn s l ≡ true) × (w ≡ word_taken l (candidates s))
  unfolding decided_of
  decided_drawn w e =
      both (drawn s l) (λ t. let q : Some (word_taken l (candidates s)) ≡ Some w = sym (simp t) ∙ e in (t, sym (ap (λ (o : Option ℕ). unwrap_or o 0) q)))
      (λ f. let z : None ≡ Some w = sym (simp f) ∙ e in absurd (false≢true (ap is_some z)))

  none_drawn : decided_of s l ≡ None → drawn s l ≡ false
  unfolding decided_of
  none_drawn e =
      both (drawn s l) (λ t. let z : Some (word_taken l (candidates s)) ≡ None = sym (simp t) ∙ e in absurd (false≢true (sym (ap is_some z)))) (λ f. f)

pub word_decided : WordDecided
unfolding pick_of
word_decided s l w e =
    let d = decided_drawn s l w e in
    let r = parted l (candidates s) (drawn_then s l d.0).1 in
    rw d.1
    (record {
      before = r.before;
      after = r.after;
      words = r.words;
      passed = r.passed;
      taken = r.taken;
      chosen = simp d.0 (ap (candidate_at s) r.drawn);
    })

pub none_decided : NoneDecided
unfolding pick_of
none_decided s l e h = simp (none_drawn s l e, lt-ltb (head_of s) s.count h)

-- a word that is taken is one of the list
pub taken_small : (l : List ℕ) (n : ℕ) → Words l → word_taken l n < 2 ^ 32
unfolding word_taken
taken_small [] n h = h 0
taken_small (w ∷ l) n h = both (passed_over n w) (λ p. simp p (taken_small l n (λ i. h (suc i)))) (λ p. simp p (h 0))
