-- How a trial stands after each line, so that the next line is accepted and enough of each kind come. Assumes nothing.
-- ---- the least of b and what f says of 0, .., n - 1
use Rattle.std.specs.Prelude.{◌≡◌, ℕ, zero, suc, ◌+◌, ◌-◌, ◌*◌, ◌<◌, ◌≤◌, min, Bool, true, false, not, ◌&&◌, List, [], ◌∷◌, ◌++◌, length, drop, nat_le, nat_lt}
use Rattle.std.proofs.Math.Path.{ap}
use Rattle.std.proofs.Common.{sym, ◌∙◌, true≢false}
use Rattle.std.proofs.Math.Logic.{dite}
use native.Mathlib.Omega.{arith}
use Rattle.std.proofs.Math.Decide.{ℕ_discrete}
use Rattle.std.proofs.Math.ListN.{length-append, length-drop}
use borrow.Author.Tests.{leb-true, ltb-true, lt-leb, lt-ltb, le-ltb, ne_eqb}
use Rattle.bounded.specs.Tests.{and_both, gate, gate_on, gate_off}
use Rattle.bounded.specs.Sum.{sum_to}
use Rattle.bounded.specs.Fold.{fold_to}
use Rattle.bounded.specs.Least.{least_at}
use Rattle.table.specs.Rows.{horizon, tasks_of}
use Rattle.lines.specs.declared.read.Call.TheVariants.{Choose}
use Rattle.lines.specs.declared.read.Line.{Line}
use Rattle.lines.specs.declared.read.Line.TheVariants.{Word, Call as CallLine}
use Rattle.session.specs.declared.Session.{Session}
use Rattle.session.specs.declared.Answer.TheVariants.{Chosen}
use Rattle.session.specs.Reading.{job_at, tasks, clock_end}
use Rattle.session.specs.Sound.{sound}
use Rattle.session.specs.Choose.{pick_of, pick_used, used_of, span_of}
use Rattle.session.specs.Calls.{changed, arrived_of, arrive_in, arrive_of, choose_in, choose_of, stepped_of, advance_in, advance_of}
use Rattle.session.specs.Facts.{facts_of}
use Rattle.guarantee.specs.Ledger.{choose}
use Rattle.guarantee.specs.Good.{Good}
use Rattle.guarantee.specs.Keeps.{good_call}
use Rattle.guarantee.specs.Exact.{span_some}
use Rattle.workload.specs.Table.{row_count, table_of}
use Rattle.workload.specs.Trial.{Trial, ready_row_lem, ready, until_next_lem}
use Rattle.workload.specs.Statement.{count_of}
use Rattle.workload.specs.Loose.{count_few, table_rows, table_bounds}

module _ (f : ℕ → ℕ) (b : ℕ) where
  abbrev least_of : ℕ → ℕ
  least_of n = fold_to (λ m i. min m (f i)) b n

  least_le : (n i : ℕ) → i < n → least_of n ≤ f i
  unfolding fold_to
  least_le zero i l = absurd (omega arith)
  least_le (suc n) i l = dite (ℕ_discrete i n) (λ e. rw e (omega arith)) (λ ne. omega (arith, least_le n i (omega arith)))

-- ---- what a session's rows say

unfoldable pub next_at : Session → ℕ → ℕ
next_at s i = (job_at s i).next

-- a choice is in force, and no row may arrive
abbrev pub running : Session → Bool
running s = not (ready s) && nat_lt 0 s.span

module _ (s : Session) where
  pub ready_row : ready s ≡ true → (ready_row_lem s < s.count) × ((job_at s (ready_row_lem s)).next ≤ s.clock)
  unfolding ready ready_row_lem
  ready_row e =
      let l = ltb-true (ready_row_lem s) s.count e in
      (l, leb-true _ _ (least_at (λ i. nat_le (job_at s i).next s.clock) 0 s.count (omega arith)))

  pub until_le : (i : ℕ) → i < s.count → until_next_lem s ≤ (job_at s i).next - s.clock
  unfolding until_next_lem
  until_le i l = least_le (λ i. (job_at s i).next - s.clock) horizon s.count i l

-- ---- the accepted calls

module _ (s : Session) (ok : sound s ≡ true) where
  pub arrive_is : (k : ℕ) → k < s.count → (job_at s k).next ≤ s.clock → arrive_of s k ≡ arrived_of s k
  unfolding arrive_of arrive_in
  arrive_is k l h = simp (ok, lt-leb s.count k l, le-ltb s.clock (job_at s k).next h)

  pub choose_is : (q : List ℕ) → s.span ≡ 0
      → choose_of s q
      ≡ record {
        answer = Chosen (pick_of s q) (span_of s q (pick_used s q) (pick_of s q));
        used = used_of s q;
        session = changed s s.clock s.jobs (pick_of s q) (span_of s q (pick_used s q) (pick_of s q));
      }
  unfolding choose_of choose_in
  choose_is q e = simp (ok, le-ltb 0 s.span (omega arith))

  pub advance_is : (n : ℕ) → 1 ≤ n → n ≤ s.span → s.clock + n ≤ clock_end → advance_of s n ≡ stepped_of s n
  unfolding advance_of advance_in
  advance_is n one most end =
      simp (ok, ne_eqb s.span 0 (λ z. omega arith), ne_eqb n 0 (λ z. omega arith), le-ltb s.span n most, le-ltb clock_end (s.clock + n) end)

-- ---- where a trial stands after the lines `done`, the last of them first

pub record Stand (seed : ℕ) (x : Trial) (done : List Line) : Type 0 where
  pub good : Good (table_of seed) x.session
  -- no arrival is late: no row's earliest next arrival was passed
  pub behind : (i : ℕ) → i < row_count seed → x.session.clock ≤ next_at x.session i
  -- each arrival puts one of these 4 to 8 ticks on, for each row of the table
  pub least : 4 * (row_count seed * count_of 65 done) ≤ sum_to (next_at x.session) (row_count seed)
  pub most : sum_to (next_at x.session) (row_count seed) ≤ 8 * (row_count seed * count_of 65 done)
  -- each step takes 1 to 51 ticks
  pub ticks : count_of 82 done ≤ x.session.clock
  pub far : x.session.clock ≤ 51 * count_of 82 done
  -- a choice follows each word, and a step each choice
  pub words : count_of 87 done ≡ count_of 71 done + gate x.given 1
  pub runs : count_of 71 done ≡ count_of 82 done + gate (running x.session) 1
  pub calm : x.given ≡ true → (ready x.session ≡ false) × (x.session.span ≡ 0)
  -- no more words wait than were queued
  pub queue : length x.queue ≤ count_of 87 done
  -- there are no other lines
  pub all : count_of 65 done + count_of 87 done + count_of 71 done + count_of 82 done ≡ length done
  pub finishes : count_of 70 done ≡ 0

module _ (seed : ℕ) (x : Trial) (done : List Line) (h : Stand seed x done) where
  abbrev n : ℕ
  n = row_count seed

  abbrev s : Session
  s = x.session

  pub rows : s.count ≡ n
  rows = h.good.count ∙ table_rows seed

  pub sound_is : sound s ≡ true
  sound_is = h.good.sound

  same_period : (i : ℕ) → (tasks s).T i ≡ (tasks_of (table_of seed)).T i
  same_period i = ap (λ (l : List ℕ). (tasks_of l).T i) h.good.rows

  -- periods are 4 to 8 ticks for each row
  pub period : (i : ℕ) → i < n → (4 * n ≤ (tasks s).T i) × ((tasks s).T i ≤ 8 * n)
  period i l =
      let b = table_bounds seed i l in
      (omega (arith, same_period i, b.due, b.apart), omega (arith, same_period i, b.often))

  first_period : (tasks s).T 0 ≤ 51
  first_period = omega (arith, same_period 0, (table_bounds seed 0 (omega (arith, count_few seed))).often, count_few seed)

  -- `A`: the row's earliest next arrival is now
  module _ (e : ready s ≡ true) where
    abbrev k : ℕ
    k = ready_row_lem s

  -- no row may arrive, and no choice is in force
  module _ (e : ready s ≡ false) (z : s.span ≡ 0) where
    still : running s ≡ false
    still = simp (e, le-ltb 0 s.span (omega arith))

    -- `W`
    pub gives : (w : ℕ) → x.given ≡ false → Stand seed (record { session = s; queue = x.queue ++ w ∷ []; number = w; given = true }) (Word w ∷ done)
    unfolding count_of gate
    gives w f = record {
      good = h.good;
      behind = h.behind;
      least = omega (arith, h.least);
      most = omega (arith, h.most);
      ticks = omega (arith, h.ticks);
      far = omega (arith, h.far);
      words = omega (arith, h.words, gate_off x.given 1 f);
      runs = omega (arith, h.runs);
      calm = λ t. (e, z);
      queue = simp length-append (omega (arith, h.queue));
      all = omega (arith, h.all);
      finishes = omega (arith, h.finishes);
    }

    -- `G`
    module _ (t : x.given ≡ true) where
      abbrev picked : ℕ
      picked = pick_of s x.queue

      abbrev lasting : ℕ
      lasting = span_of s x.queue (pick_used s x.queue) picked

      abbrev chosen : Session
      chosen = changed s s.clock s.jobs picked lasting

      starts : running chosen ≡ true
      unfolding ready ready_row_lem
      starts = and_both (not (ready s)) _ (ap not e) (lt-ltb 0 lasting (span_some s (facts_of s sound_is) x.queue))

      pub chooses : Stand seed (record { session = chosen; queue = drop (used_of s x.queue) x.queue; number = x.number; given = false }) (CallLine Choose ∷ done)
      unfolding count_of gate next_at ready ready_row_lem
      chooses = record {
        good = ap_good (good_call (table_of seed) s h.good (choose x.queue));
        behind = h.behind;
        least = omega (arith, h.least);
        most = omega (arith, h.most);
        ticks = omega (arith, h.ticks);
        far = omega (arith, h.far);
        words = omega (arith, h.words, gate_on x.given 1 t);
        runs = omega (arith, h.runs, gate_off (running s) 1 still, gate_on (running chosen) 1 starts);
        calm = λ f. absurd (true≢false (sym f));
        queue = omega (arith, h.queue, length-drop (used_of s x.queue) x.queue);
        all = omega (arith, h.all);
        finishes = omega (arith, h.finishes);
      }
        where
          ap_good : Good (table_of seed) (choose_of s x.queue).session → Good (table_of seed) chosen
          ap_good g = rw (choose_is s sound_is x.queue z) at g

  -- `R`: no row may arrive, and a choice is in force
  module _ (e : ready s ≡ false) (some : 1 ≤ s.span) where
    abbrev m : ℕ
    m = min s.span (until_next_lem s)

    -- no further than the first row's next arrival, which is 51 ticks ahead at most
    pub until_few : until_next_lem s ≤ 51
    until_few =
        let first : 0 < s.count = omega (arith, rows, count_few seed) in
        omega (arith, until_le s 0 first, (facts_of s sound_is).next 0 first, first_period)

    pub step_few : m ≤ 51
    step_few = omega (arith, until_few)
