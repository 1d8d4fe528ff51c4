-- A start: from a slice of numbers to the fresh session, or to the refusal of the table (docs/SPECIFICATION.md §5.1).
-- Assumes nothing.
use Rattle.std.specs.Prelude.{ℕ, zero, suc, ◌/◌, ◌≤◌, min, ◌≡◌, refl, cond, Result, Ok, Err, List, [], ◌∷◌, ◌++◌, eqb, length, get_or, set, take, drop, replicate}
use Rattle.std.proofs.Common.{sym, ap, ◌∙◌, arith, eq-eqb, ne_eqb}
use Rattle.std.proofs.Math.Seq.{length-take-le, take-suc, drop-cons, set-append_seam}
use Rattle.std.proofs.lemmas.List.{append_assoc, length-replicate}
use Rattle.bounded.specs.Fold.{fold_to}
use Rattle.table.specs.declared.Judgement.{Judgement}
use Rattle.table.specs.declared.Refusal.{Refusal}
use Rattle.table.specs.Verdict.{opinion_of}
use Rattle.table.specs.Opinion.{kind_number, shown_of, Says, says_of, refusal_some}
use Rattle.session.specs.declared.Session.{Session}
use Rattle.session.specs.declared.start.Started.{Started}
use Rattle.session.specs.Reading.{no_job}

-- the first n numbers of l, in the first of 48 places of a record
unfoldable pub words_to : List ℕ → ℕ → List ℕ
words_to l n = fold_to (λ w i. set w i (get_or l i 0)) (replicate 48 0) n

-- a session of l's rows as they start: clock 0, each earliest next arrival 0, no job waiting, no choice in force
unfoldable pub fresh_of : List ℕ → ℕ → Session
fresh_of l kind = record {
  clock = 0;
  kind = kind;
  count = length l / 3;
  words = words_to l (min (length l) 48);
  jobs = replicate 16 no_job;
  chosen = 0;
  span = 0;
}

-- no session: it has no rows, so that every call on it answers 5 (`AlwaysFive` in crates/guarantee/specs/Statement.antt)
abbrev pub no_session : Session
no_session = record { clock = 0; kind = 0; count = 0; words = replicate 48 0; jobs = replicate 16 no_job; chosen = 0; span = 0 }

-- what a start leaves where s was there before: the fresh session of an admitted table, whose kind is the opinion's first
-- value; and s where the opinion refuses the table
unfoldable pub start_of : Session → List ℕ → Session
start_of s l = cond (eqb (opinion_of l).number 0) (fresh_of l (opinion_of l).first) s

-- by value there is no session before
abbrev pub session_of : List ℕ → Session
session_of l = start_of no_session l

-- the contract of a start: the opinion on the slice, and the session that it leaves
pub record Starts (s : Session) (l : List ℕ) (r : Started) : Type 0 where
  pub opinion : shown_of r.opinion ≡ opinion_of l
  pub session : r.session ≡ start_of s l

-- ---- laws

module _ (s : Session) (l : List ℕ) where
  pub start_fresh : (opinion_of l).number ≡ 0 → start_of s l ≡ fresh_of l (opinion_of l).first
  unfolding start_of
  start_fresh e = simp (eq-eqb (opinion_of l).number 0 e)

  pub start_same : ((opinion_of l).number ≡ 0 → ⊥) → start_of s l ≡ s
  unfolding start_of
  start_same ne = simp (ne_eqb (opinion_of l).number 0 ne)

-- ---- the code

-- the first n numbers of l before what r has from place n on
copy_to : (l r : List ℕ) (n : ℕ) → n ≤ length l → n ≤ length r → take n l ++ drop n r ≡ fold_to (λ w i. set w i (get_or l i 0)) r n
unfolding fold_to
copy_to l r zero h g = refl
copy_to l r (suc n) h g =
    let x = get_or l n 0 in
    let rest = drop (suc n) r in
    ap (λ (w : List ℕ). w ++ rest) (take-suc l n 0 (omega arith))
    ∙ append_assoc (take n l) (x ∷ []) rest
    ∙ sym (set-append_seam (take n l) (get_or r n 0) rest x)
    ∙ ap (λ (k : ℕ). set (take n l ++ get_or r n 0 ∷ rest) k x) (length-take-le n l (omega arith))
    ∙ ap (λ (w : List ℕ). set (take n l ++ w) n x) (sym (drop-cons r n 0 (omega arith)))
    ∙ ap (λ (w : List ℕ). set w n x) (copy_to l r n (omega arith) (omega arith))

pub words_are : (l : List ℕ) (n : ℕ) → n ≡ min (length l) 48 → take n l ++ drop n (replicate 48 0) ≡ words_to l (min (length l) 48)
unfolding words_to
words_are l n e = copy_to l (replicate 48 0) n (omega arith) (omega (arith, length-replicate {A = ℕ} 48 0)) ∙ ap (words_to l) e

pub fresh_is : (l w : List ℕ) (kind n : ℕ) → w ≡ words_to l (min (length l) 48) → n ≡ length l / 3
    → record { clock = 0; kind = kind; count = n; words = w; jobs = replicate 16 no_job; chosen = 0; span = 0 } ≡ fresh_of l kind
unfolding fresh_of
fresh_is l w kind n e f = rw (e, f)

module _ (s : Session) (l : List ℕ) (v : Result Judgement Refusal) (h : Says v (opinion_of l)) where
  pub start_yes : (r : Session) (j : Judgement) (k : ℕ) → v ≡ Ok j → k ≡ kind_number j.kind → r ≡ fresh_of l k → r ≡ start_of s l
  start_yes r j k is q e =
      let says : Says (Ok j) (opinion_of l) = rw is at h in
      e ∙ ap (fresh_of l) (q ∙ says.first) ∙ sym (start_fresh s l (sym says.number))

  pub start_not : (e : Refusal) → v ≡ Err e → s ≡ start_of s l
  start_not e is =
      let says : Says (Err e) (opinion_of l) = rw is at h in
      sym (start_same s l (λ z. refusal_some e (says.number ∙ z)))

pub ruleset start_cases = (start_yes, start_not)

pub start_says : (l : List ℕ) (v : Result Judgement Refusal) → shown_of v ≡ opinion_of l → Says v (opinion_of l)
start_says l v e = says_of v (opinion_of l) e

pub starts_is : (s r : Session) (l : List ℕ) (v : Result Judgement Refusal) → shown_of v ≡ opinion_of l → r ≡ start_of s l
    → Starts s l (record { opinion = v; session = r })
starts_is s r l v e f = record { opinion = e; session = f }

pub ruleset start_laws = (start_says, starts_is)

pub starts_none : (s : Session) (l : List ℕ) (r : Started) → s ≡ no_session → Starts s l r → Starts no_session l r
starts_none s l r e h = rw e at h
