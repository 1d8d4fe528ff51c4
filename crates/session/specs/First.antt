-- The first in order of the waiting jobs, and the head (docs/SPECIFICATION.md §5.4). Assumes nothing.
use Rattle.std.specs.Prelude.{ℕ, zero, suc, ◌≤◌, ◌<◌, ◌≡◌, false, ◌&&◌, ◌⊎◌}
use Rattle.std.proofs.Common.{sym, ◌∙◌, true≢false, inl, inr, arith}
use Rattle.std.proofs.Math.Bool.{true, not}
use Rattle.std.proofs.Math.Logic.{dite, ⊎_elim}
use Rattle.std.proofs.Math.Decide.{ℕ_discrete}
use Rattle.std.proofs.lemmas.Bool.{not-true}
use Rattle.bounded.specs.Tests.{both, and-true, and_both}
use Rattle.bounded.specs.All.{all_at, all_of}
use Rattle.bounded.specs.Least.{least_at, least_before}
use Rattle.session.specs.declared.Session.{Session}
use Rattle.session.specs.Reading.{job_at, waits}
use Rattle.session.specs.Order.{before, is_head, head_of}
use Rattle.session.specs.Before.{before_self, before_trans, before_due}

-- ---- the first in order

-- of the first n rows, i is the first in order that waits
pub record First (s : Session) (n i : ℕ) : Type 0 where
  pub row : i < n
  pub waiting : waits s i ≡ true
  pub first : (j : ℕ) → j < n → waits s j ≡ true → before s j i ≡ false

abbrev pub NoneWaits : Session → ℕ → Type 0
NoneWaits s n = (j : ℕ) → j < n → waits s j ≡ false

-- it is so of one row more, where row n is not before it
first_same : (s : Session) (n i : ℕ) → First s n i → (waits s n ≡ true → before s n i ≡ false) → First s (suc n) i
first_same s n i f h = record {
  row = omega (arith, f.row);
  waiting = f.waiting;
  first = λ j u w. dite (ℕ_discrete j n) (λ e. let v : waits s n ≡ true = rw e at w in rw e (h v)) (λ ne. f.first j (omega arith) w);
}

-- row n is, where none of them is before it
first_new : (s : Session) (n : ℕ) → waits s n ≡ true → ((j : ℕ) → j < n → waits s j ≡ true → before s j n ≡ false) → First s (suc n) n
first_new s n w h = record {
  row = omega arith;
  waiting = w;
  first = λ j u v. dite (ℕ_discrete j n) (λ e. rw e (before_self s n)) (λ ne. h j (omega arith) v);
}

none_more : (s : Session) (n : ℕ) → NoneWaits s n → waits s n ≡ false → NoneWaits s (suc n)
none_more s n h e j u = dite (ℕ_discrete j n) (λ q. rw q e) (λ q. h j (omega arith))

pub first_of : (s : Session) (n : ℕ) → ((i : ℕ) × First s n i) ⊎ NoneWaits s n
first_of s zero = inr (λ j u. absurd (omega arith))
first_of s (suc n) =
    both (waits s n)
    (λ w. ⊎_elim
    (λ (p : (i : ℕ) × First s n i).
    let i = p.0 in
    let f = p.1 in
    both (before s n i)
    (λ b. inl (
      n,
      first_new s n w (λ j u v. both (before s j n)
          (λ c. absurd (true≢false (sym (before_trans s j n i c b) ∙ f.first j u v))) (λ c. c)),
    ))
    (λ b. inl (i, first_same s n i f (λ v. b))))
    (λ (none : NoneWaits s n). inl (n, first_new s n w (λ j u v. absurd (true≢false (sym v ∙ none j u)))))
    (first_of s n))
    (λ w. ⊎_elim
    (λ (p : (i : ℕ) × First s n i). inl (p.0, first_same s n p.0 p.1 (λ v. absurd (true≢false (sym v ∙ w)))))
    (λ (none : NoneWaits s n). inr (none_more s n none w))
    (first_of s n))

-- ---- the head

pub first_head : (s : Session) (i : ℕ) → First s s.count i → is_head s i ≡ true
unfolding is_head
first_head s i f =
    and_both (waits s i) _ f.waiting
    (all_of (λ j. not (waits s j && before s j i)) s.count
    (λ j u. both (waits s j) (λ w. simp (w, f.first j u w)) (λ w. simp w)))

module _ (s : Session) where
  -- where there is no head, nothing waits
  pub none_waits : s.count ≤ head_of s → NoneWaits s s.count
  unfolding head_of
  none_waits h =
      ⊎_elim
      (λ (p : (i : ℕ) × First s s.count i).
      absurd
      (true≢false
      (sym (first_head s p.0 p.1) ∙ least_before (is_head s) 0 s.count p.0 (omega arith) (omega (arith, p.1.row)))))
      (λ none. none)
      (first_of s s.count)

  pub is_head_lem : head_of s < s.count → is_head s (head_of s) ≡ true
  unfolding head_of
  is_head_lem h = least_at (is_head s) 0 s.count (omega arith)

  -- the head waits, and no waiting job has an earlier deadline
  pub head_waits : head_of s < s.count → waits s (head_of s) ≡ true
  unfolding is_head
  head_waits h = (and-true (waits s (head_of s)) _ (is_head_lem h)).0

  pub head_least : head_of s < s.count → (j : ℕ) → j < s.count → waits s j ≡ true → (job_at s (head_of s)).due ≤ (job_at s j).due
  unfolding is_head
  head_least h j u w =
      let a = (and-true (waits s (head_of s)) _ (is_head_lem h)).1 in
      let b : not (before s j (head_of s)) ≡ true = simp w at (all_at (λ j. not (waits s j && before s j (head_of s))) s.count a j u) in
      before_due s j (head_of s) (not-true (before s j (head_of s)) b)
