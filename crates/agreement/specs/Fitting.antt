-- Every number of an explanation has 64 bits. Assumes nothing.
use Rattle.std.specs.Prelude.{ℕ, ◌+◌, ◌*◌, ◌^◌, ◌≤◌, ◌<◌, ◌≡◌, true, not, ◌&&◌, List, eqb, length, drop, None, Option, Some, is_some, unwrap_or}
use Rattle.std.proofs.Math.Path.{sym, ap}
use Rattle.std.proofs.Common.{◌∙◌, arith}
use Rattle.std.proofs.lemmas.Bool.{false≢true}
use Rattle.std.proofs.Math.Logic.{dite, ⊎_elim}
use Rattle.std.proofs.Math.Decide.{dec_lt}
use Rattle.std.proofs.Math.Dec.{ltb}
use Rattle.std.proofs.Math.ListN.{get_or-eq_default}
use borrow.Author.Tests.{ltb-true, eq-eqb, ne_eqb}
use Rattle.bounded.specs.Tests.{both, and-true}
use Rattle.table.specs.Rows.{horizon, tasks_of}
use Rattle.table.specs.Opinion.{good_length}
use Rattle.session.specs.declared.Session.{Session}
use Rattle.session.specs.Reading.{idle, job_at, rows_of, tasks, waits}
use Rattle.session.specs.Facts.{Facts, facts_of, facts_fit, facts_deadline, facts_row}
use Rattle.session.specs.Order.{brittle_due_lem, candidates, waiting_count, waiting_at}
use Rattle.session.specs.Brittle.{due_is}
use Rattle.session.specs.Ranked.{waiting_at_lem}
use Rattle.session.specs.Choose.{draw, pick_of, pick_used, room, unopposed, length_drawn, span_of}
use Rattle.guarantee.specs.KeepsTable.{opinion_length, most_le}
use Rattle.guarantee.specs.KeepsPick.{pick_may}
use Rattle.guarantee.specs.Room.{room_lesser}
use Rattle.wording.specs.Explanation.{FitsJob}
use Rattle.explain.specs.Explain.{held_of, brittle_of, explanation_of}
use Rattle.explain.specs.Account.{waiting_few, held_length, held_at}
use Rattle.agreement.specs.Statement.{ExplanationFits}
use Rattle.agreement.specs.Words.{decided_drawn, taken_small}

module _ (s : Session) (f : Facts s) where
  -- a waiting job's deadline and budget
  job_fits : (i : ℕ) → i < s.count → waits s i ≡ true → FitsJob (held_of s i)
  unfolding held_of
  job_fits i l w =
      let j = f.job i l w in
      let d = facts_deadline s f i in
      record {
        row = omega (arith, f.few);
        due = omega (arith, j.deadline, f.next i l, f.clock);
        budget = omega (arith, j.budget, most_le (tasks s) i);
      }

  -- what is chosen is idle or a row of the table
  pick_small : (l : List ℕ) → pick_of s l ≤ 16
  pick_small l = ⊎_elim (λ e. omega arith) (λ r. omega (arith, f.few, r.known)) (pick_may s f.few l).runs

  -- and runs for 1,000,000 ticks at most
  room_small : (l : List ℕ) → room s (pick_of s l) ≤ horizon
  unfolding waits
  room_small l =
      let r = (room_lesser s (pick_of s l)).most in
      ⊎_elim (λ e. let q : room s (pick_of s l) ≤ horizon = simp (eq-eqb (pick_of s l) idle e) at r in q)
      (λ k.
      let q : room s (pick_of s l) ≤ (job_at s (pick_of s l)).left = simp (ne_eqb (pick_of s l) idle (λ e. omega (arith, f.few, k.known))) at r in
      let j = f.job (pick_of s l) k.known k.waiting in
      let d = (facts_fit s f).row (pick_of s l) (facts_row s f (pick_of s l) k.known k.waiting) in
      omega (arith, j.most, d.fits, facts_deadline s f (pick_of s l)))
      (pick_may s f.few l).runs

  span_small : (l : List ℕ) → span_of s l (pick_used s l) (pick_of s l) ≤ horizon
  unfolding span_of length_drawn
  span_small l =
      let m = room s (pick_of s l) in
      let n = draw (drop (pick_used s l) l) m in
      both (not (unopposed s (pick_of s l)) && ltb n m)
      (λ t. simp t (omega (arith, room_small l, ltb-true n m (and-true (not (unopposed s (pick_of s l))) _ t).1)))
      (λ z. simp z (room_small l))

  -- past the table's rows T is read as 0
  period_small : (i : ℕ) → (tasks s).T i ≤ horizon
  unfolding tasks_of
  period_small i =
      dite (dec_lt i (tasks s).rows) (λ h. omega (arith, (facts_fit s f).row i h))
      (λ h.
      let n = good_length (length (rows_of s)) (opinion_length (rows_of s) f.admitted) in
      omega (arith, get_or-eq_default (rows_of s) 0 {n = 3 * i + 1} (omega (arith, n))))

  brittle_small : (n : ℕ) → brittle_of s ≡ Some n → n < 2 ^ 64
  unfolding brittle_of
  brittle_small n e =
      both (eqb s.kind 3)
      (λ k.
      let z : Some (brittle_due_lem s) ≡ Some n = sym (simp k) ∙ e in
      let q = ap (λ (o : Option ℕ). unwrap_or o 0) z in
      ⊎_elim (λ d. omega arith)
      (λ d. omega (arith, d.3, f.clock, f.next d.0 d.1, facts_deadline s f d.0, period_small d.0))
      (due_is s))
      (λ k. let z : None ≡ Some n = sym (simp k) ∙ e in absurd (false≢true (ap is_some z)))

pub explanation_fits : ExplanationFits
unfolding explanation_of
explanation_fits s l e ws =
    let f = facts_of s e in
    record {
      few = omega (arith, held_length s (waiting_count s), waiting_few s, f.few);
      jobs = λ k h.
          let k' : k < waiting_count s = omega (arith, held_length s (waiting_count s)) in
          let r = waiting_at_lem s k k' in
          rw (held_at s (waiting_count s) k k') (job_fits s f (waiting_at s k) r.0 r.1);
      brittle = brittle_small s f;
      chosen = omega (arith, pick_small s f l);
      decided = λ w q. omega (arith, (decided_drawn s l w q).1, taken_small l (candidates s) ws);
      span = omega (arith, span_small s f l);
    }
