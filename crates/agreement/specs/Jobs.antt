-- The jobs of an explanation are the waiting jobs in order. Assumes nothing.
use Rattle.std.specs.Prelude.{ℕ, ◌<◌, ◌≡◌, true}
use Rattle.std.proofs.Common.{ap, arith}
use Rattle.bounded.specs.Tests.{both}
use Rattle.session.specs.declared.Session.{Session}
use Rattle.session.specs.Reading.{waits}
use Rattle.session.specs.Order.{before, waiting_count, place_of, waiting_at}
use Rattle.session.specs.Before.{before_or}
use Rattle.session.specs.Ranked.{place_below, place_lower, place_apart, waiting_at_lem}
use Rattle.explain.specs.Explain.{explanation_of}
use Rattle.explain.specs.Account.{held_length, held_at}
use Rattle.agreement.specs.Statement.{InOrder}

module _ (s : Session) where
  -- a waiting job stands in its place
  stands : (i : ℕ) → i < s.count → waits s i ≡ true → waiting_at s (place_of s i) ≡ i
  stands i l w =
      let r = waiting_at_lem s (place_of s i) (place_below s i l w) in
      place_apart s (waiting_at s (place_of s i)) i r.0 l r.1 w r.2

  ordered : (j k : ℕ) → j < k → k < waiting_count s → before s (waiting_at s j) (waiting_at s k) ≡ true
  ordered j k l h =
      let a = waiting_at_lem s j (omega arith) in
      let b = waiting_at_lem s k h in
      both (before s (waiting_at s j) (waiting_at s k)) (λ t. t)
      (λ f.
      let apart : ¬ (waiting_at s j ≡ waiting_at s k) = λ q. omega (arith, a.2, b.2, ap (place_of s) q) in
      let back = place_lower s (waiting_at s k) (waiting_at s j) b.0 b.1 (before_or s (waiting_at s j) (waiting_at s k) apart f) in
      absurd (omega (arith, a.2, b.2)))

pub in_order : InOrder
unfolding explanation_of
in_order s l = record {
  number = held_length s (waiting_count s);
  each = λ k h. let r = waiting_at_lem s k h in (r.0, r.1, held_at s (waiting_count s) k h);
  all = λ i h w. (place_of s i, place_below s i h w, stands s i h w);
  order = ordered s;
}
