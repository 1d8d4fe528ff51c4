-- In a tight session the head is the only candidate (docs/SPECIFICATION.md §5.4). Assumes nothing.
use Rattle.std.specs.Prelude.{ℕ, ◌<◌, ◌≡◌, true, false, List}
use Rattle.std.proofs.Common.{sym, ◌∙◌, true≢false, ⊎_elim, arith}
use Rattle.std.proofs.Math.Bool.{not}
use Rattle.std.proofs.Math.Logic.{dite}
use Rattle.std.proofs.Math.Decide.{dec_lt}
use borrow.Author.Tests.{lt-ltb, lt-leb}
use Rattle.bounded.specs.Tests.{both}
use Rattle.bounded.specs.All.{all_of}
use Rattle.session.specs.declared.Session.{Session}
use Rattle.session.specs.Reading.{job_at, tasks, ahead}
use Rattle.session.specs.Order.{head_of, candidates}
use Rattle.session.specs.First.{none_waits, head_waits, head_least}
use Rattle.session.specs.Alone.{only_row, not_idle_lem, one_candidate}
use Rattle.session.specs.Choose.{contested, drawn, pick_of, room, unopposed, length_drawn, span_of, pick_used, used_of}
use Rattle.session.specs.Facts.{Facts, facts_of, facts_row}
use Rattle.session.specs.Brittle.{tight_rows}
use Rattle.guarantee.specs.Statement.{TightHead}
use Rattle.guarantee.specs.KeepsTable.{most_brittle}
use Rattle.guarantee.specs.KeepsChoice.{ahead_waits, ahead_earlier}
use Rattle.guarantee.specs.Exact.{row_room}

module _ (s : Session) (f : Facts s) (tight : s.kind ≡ 2) (h : head_of s < s.count) where
  -- its budget is spent
  spent : (job_at s (head_of s)).budget ≡ 0
  spent =
      let w = head_waits s h in
      let b = tight_rows s f tight (head_of s) (facts_row s f (head_of s) h w) in
      omega (arith, (f.job (head_of s) h w).budget, most_brittle (tasks s) (head_of s) b)

  -- no job loses budget while the head runs
  none_ahead : (j : ℕ) → j < s.count → ahead s (head_of s) j ≡ false
  none_ahead j l =
      both (ahead s (head_of s) j)
      (λ a. absurd (omega (
        arith,
        head_least s h j l (ahead_waits s (head_of s) j a),
        ahead_earlier s (head_of s) j (λ e. omega (arith, f.few)) a,
      )))
      (λ a. a)

  head_room : room s (head_of s) ≡ (job_at s (head_of s)).left
  head_room =
      ⊎_elim (λ e. e) (λ t. absurd (true≢false (sym t.2 ∙ none_ahead t.0 t.1)))
      (row_room s (head_of s) (λ e. omega (arith, f.few))).one

  not_contested : contested s ≡ false
  unfolding contested
  not_contested = simp (lt-ltb (head_of s) s.count h, lt-leb 2 (candidates s) (omega (arith, one_candidate s h spent)))

  head_first : unopposed s (head_of s) ≡ true
  unfolding unopposed
  head_first = all_of (λ j. not (ahead s (head_of s) j)) s.count (λ j k. simp (none_ahead j k))

  module _ (l : List ℕ) where
    head_picked : pick_of s l ≡ head_of s
    unfolding pick_of drawn
    head_picked = simp (not_contested, lt-ltb (head_of s) s.count h)

    head_span : span_of s l (pick_used s l) (pick_of s l) ≡ (job_at s (head_of s)).left
    unfolding span_of length_drawn
    head_span = rw head_picked (simp head_first head_room)

    no_word : used_of s l ≡ 0
    unfolding used_of pick_used
    no_word = rw head_picked (simp (not_contested, head_first))

pub tight_head : TightHead
tight_head s e tight i l w =
    dite (dec_lt (head_of s) s.count)
    (λ h.
    let f = facts_of s e in
    record {
      row = only_row s h (spent s f tight h);
      not_idle = not_idle_lem s h (spent s f tight h);
      number = one_candidate s h (spent s f tight h);
      pick = head_picked s f tight h;
      span = head_span s f tight h;
      used = no_word s f tight h;
    })
    (λ h. absurd (true≢false (sym w ∙ none_waits s (omega arith) i l)))
