-- What the brittle deadline does in mixed and in loose sessions (docs/SPECIFICATION.md §5.4). Assumes nothing.
use Rattle.std.specs.Prelude.{ℕ, ◌*◌, ◌≤◌, ◌<◌, ◌≡◌, refl, ◌&&◌, List, ltb, eqb}
use Rattle.std.proofs.Common.{sym, ◌∙◌, true≢false, inl, ⊎_elim, arith, length-take}
use Rattle.std.proofs.Math.Bool.{true}
use Rattle.std.proofs.Math.Logic.{inr}
use borrow.Author.Tests.{eqb-true, leb-true}
use Rattle.bounded.specs.Tests.{both, and-true}
use Rattle.table.specs.Rows.{tasks_of}
use Rattle.table.specs.Budgets.{brittle}
use Rattle.session.specs.declared.Session.{Session}
use Rattle.session.specs.Reading.{far, job_at, rows_of, tasks, waits}
use Rattle.session.specs.Order.{head_of, permits, next_due, brittle_due_lem, near, candidate, idles}
use Rattle.session.specs.First.{none_waits, head_waits}
use Rattle.session.specs.Choose.{pick_of}
use Rattle.session.specs.Facts.{Facts, facts_of, facts_fit}
use Rattle.session.specs.Brittle.{mixed_row, due_le, due_is, loose_near}
use Rattle.guarantee.specs.Statement.{EarliestBrittle, HeadOrNear, MixedChoice, LooseFree}
use Rattle.guarantee.specs.Picked.{pick_case}

-- ---- the brittle deadline

-- a table has no more rows than the record says
rows_most : (s : Session) → (tasks s).rows ≤ s.count
unfolding rows_of tasks_of
rows_most s = omega (arith, length-take (3 * s.count) s.words)

module _ (s : Session) (f : Facts s) (mixed : s.kind ≡ 3) where
  earliest : EarliestBrittle s (brittle_due_lem s)
  earliest = ⊎_elim none some (due_is s)
    where
      some : (j : ℕ) × (j < s.count) × (brittle (tasks s) j ≡ true) × (brittle_due_lem s ≡ next_due s j) → EarliestBrittle s (brittle_due_lem s)
      some d = record { row = d.0; known = d.1; marked = d.2; is = d.3; least = λ j l b. due_le s j l b }

      -- some row is brittle, and its next deadline is not so far
      none : brittle_due_lem s ≡ far → EarliestBrittle s (brittle_due_lem s)
      none e =
          let m = mixed_row s f mixed in
          let l : m.0 < s.count = omega (arith, m.1, rows_most s) in
          absurd (omega (arith, due_le s m.0 l m.2, f.next m.0 l, f.clock, (facts_fit s f).row m.0 m.1))

  -- ---- the choice

  module _ (h : head_of s < s.count) where
    head_near : HeadOrNear s (head_of s)
    head_near = record { known = h; waiting = head_waits s h; near = inl refl }

    candidate_near : (c : ℕ) → c < s.count → candidate s c ≡ true → HeadOrNear s c
    unfolding candidate near
    candidate_near c l e =
        let a = and-true (waits s c) _ e in
        both (eqb c (head_of s)) (λ q. rw (eqb-true c (head_of s) q) head_near)
        (λ q.
        let b : (ltb 0 (job_at s (head_of s)).budget && (permits s c && near s c)) ≡ true = simp q at a.1 in
        let n = (and-true (permits s c) (near s c) (and-true (ltb 0 (job_at s (head_of s)).budget) _ b).1).1 in
        record { known = l; waiting = a.0; near = inr (leb-true (job_at s c).due (brittle_due_lem s) n) })

  -- idle is no candidate
  idle_not : idles s ≡ true → ⊥
  unfolding idles
  idle_not e = omega (arith, eqb-true s.kind 1 (and-true (eqb s.kind 1) _ e).0)

  pick_near : (i : ℕ) → i < s.count → waits s i ≡ true → (l : List ℕ) → HeadOrNear s (pick_of s l)
  pick_near i u w =
      pick_case s (HeadOrNear s) head_near candidate_near (λ e. absurd (idle_not e))
      (λ b. absurd (true≢false (sym w ∙ none_waits s b i u)))

pub mixed_choice : MixedChoice
mixed_choice s e mixed = let f = facts_of s e in (earliest s f mixed, pick_near s f mixed)

pub loose_free : LooseFree
loose_free s e = loose_near s (facts_of s e)
