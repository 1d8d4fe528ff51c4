-- What holds of each candidate, and of idle where nothing waits, holds of what is chosen (docs/SPECIFICATION.md §5.4). Assumes
-- nothing.
use Rattle.std.specs.Prelude.{ℕ, ◌≤◌, ◌<◌, ◌≡◌, true, ◌&&◌, List, ltb}
use Rattle.std.proofs.Common.{arith}
use Rattle.std.proofs.Math.Dec.{eqb}
use borrow.Author.Tests.{ltb-true, ltb-false}
use Rattle.bounded.specs.Tests.{both, and-true}
use Rattle.bounded.specs.Least.{least_at}
use Rattle.session.specs.declared.Session.{Session}
use Rattle.session.specs.Reading.{idle}
use Rattle.session.specs.Order.{head_of, candidate, idles, candidates, position, row_with, candidate_at}
use Rattle.session.specs.Choose.{draw, contested, drawn, pick_of}

module _ (s : Session) (P : ℕ → Type 0) (head : head_of s < s.count → P (head_of s))
    (row : head_of s < s.count → (c : ℕ) → c < s.count → candidate s c ≡ true → P c) (rest : idles s ≡ true → P idle) where
  at_case : head_of s < s.count → (k : ℕ) → P (candidate_at s k)
  unfolding candidate_at row_with
  at_case h k =
      both (ltb (row_with s k) s.count)
      (λ a.
      let l = ltb-true (row_with s k) s.count a in
      let b = least_at (λ i. candidate s i && eqb (position s i) k) 0 s.count (omega arith) in
      simp a (row h (row_with s k) l (and-true (candidate s (row_with s k)) _ b).0))
      (λ a. both (idles s) (λ b. simp (a, b) (rest b)) (λ b. simp (a, b) (head h)))

  drawn_head : (w : List ℕ) → drawn s w ≡ true → head_of s < s.count
  unfolding drawn contested
  drawn_head w e = ltb-true (head_of s) s.count (and-true (ltb (head_of s) s.count) _ (and-true (contested s) _ e).0).0

  pub pick_case : (s.count ≤ head_of s → P idle) → (w : List ℕ) → P (pick_of s w)
  unfolding pick_of
  pick_case none w =
      both (drawn s w) (λ a. simp a (at_case (drawn_head w a) (draw w (candidates s))))
      (λ a. both (ltb (head_of s) s.count)
      (λ b. simp (a, b) (head (ltb-true (head_of s) s.count b)))
      (λ b. simp (a, b) (none (ltb-false (head_of s) s.count b))))
