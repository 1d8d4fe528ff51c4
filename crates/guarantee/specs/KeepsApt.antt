-- What is chosen keeps every deadline (docs/SPECIFICATION.md §5.4). Assumes nothing.
use Rattle.std.specs.Prelude.{ℕ, ◌≤◌, ◌<◌, ◌≡◌, refl, false, ◌&&◌, List, ltb, eqb}
use Rattle.std.proofs.Math.Bool.{true}
use Rattle.std.proofs.Common.{inl, arith}
use Rattle.std.proofs.Math.Logic.{inr}
use borrow.Author.Tests.{eqb-true, leb-true}
use Rattle.bounded.specs.Tests.{both, and-true}
use Rattle.table.specs.Budgets.{brittle}
use Rattle.session.specs.declared.Session.{Session}
use Rattle.session.specs.Reading.{idle, job_at, tasks, waits, state_of}
use Rattle.session.specs.Order.{head_of, permits, brittle_due_lem, near, candidate, idles}
use Rattle.session.specs.First.{none_waits, head_least}
use Rattle.session.specs.Choose.{pick_of}
use Rattle.session.specs.Brittle.{due_le}
use Rattle.guarantee.specs.Good.{Apt}
use Rattle.guarantee.specs.Picked.{pick_case}

module _ (s : Session) (few : s.count ≤ 16) (rows : s.count ≡ (tasks s).rows)
    (firm : s.kind ≡ 1 → (i : ℕ) → i < (tasks s).rows → brittle (tasks s) i ≡ false) where
  head_apt : head_of s < s.count → Apt (tasks s) (state_of s) (head_of s)
  head_apt h = record { row = λ ne. inl (λ i l w. head_least s h i (omega arith) w); rest = λ e. absurd (omega arith) }

  near_apt : (c : ℕ) → c < s.count → near s c ≡ true → Apt (tasks s) (state_of s) c
  unfolding near
  near_apt c l e = record {
    row = λ ne. inr (λ j u b. omega (arith, leb-true (job_at s c).due (brittle_due_lem s) e, due_le s j (omega arith) b));
    rest = λ z. absurd (omega arith);
  }

  candidate_apt : head_of s < s.count → (c : ℕ) → c < s.count → candidate s c ≡ true → Apt (tasks s) (state_of s) c
  unfolding candidate
  candidate_apt h c l e =
      let a = and-true (waits s c) _ e in
      both (eqb c (head_of s)) (λ q. rw (eqb-true c (head_of s) q) (head_apt h))
      (λ q.
      let b : (ltb 0 (job_at s (head_of s)).budget && (permits s c && near s c)) ≡ true = simp q at a.1 in
      near_apt c l (and-true (permits s c) (near s c) (and-true (ltb 0 (job_at s (head_of s)).budget) _ b).1).1)

  -- idle is a candidate only in a loose session, where no row is brittle
  idle_apt : idles s ≡ true → Apt (tasks s) (state_of s) idle
  unfolding idles
  idle_apt e = record {
    row = λ ne. absurd (ne refl);
    rest = λ z. inr (firm (eqb-true s.kind 1 (and-true (eqb s.kind 1) (permits s idle) e).0));
  }

  pub pick_apt : (w : List ℕ) → Apt (tasks s) (state_of s) (pick_of s w)
  pick_apt =
      pick_case s (Apt (tasks s) (state_of s)) head_apt candidate_apt idle_apt
      (λ b. record { row = λ ne. absurd (ne refl); rest = λ z. inl (λ i l. none_waits s b i (omega arith)) })
