-- What the code keeps of the ledger: the session, and the inversion ticks of each row's waiting job (docs/SPECIFICATION.md §14.4). Assumes nothing.
use Rattle.std.specs.Prelude.{ℕ, ◌+◌, ◌-◌, ◌≤◌, ◌<◌, ◌≡◌, true, false, cond, eqb, length, set}
use Rattle.std.proofs.Math.Path.{refl, sym, ap}
use Rattle.std.proofs.Common.{◌∙◌, true≢false, length-set, get_or-set_other}
use mathlib.Core.List.{List, [], ◌∷◌}
use Rattle.std.proofs.Math.Logic.{dite, ⊎_elim}
use native.Mathlib.Omega.{arith}
use Rattle.std.proofs.Math.Decide.{ℕ_discrete, dec_lt}
use Rattle.std.proofs.Math.ListN.{get_or}
use Rattle.std.proofs.Math.Seq.{get_or-set_same}
use borrow.Author.Tests.{eq-eqb, ne_eqb, lt-ltb, le-ltb, eqb-true}
use Rattle.bounded.specs.Tests.{both, and-true, gate, gate_off, gate_le}
use Rattle.bounded.specs.Fold.{fold_to, put_length, put_at, put_past}
use Rattle.edf.specs.Demand.{TaskSet}
use Rattle.table.specs.Rows.{tasks_of}
use Rattle.session.specs.declared.Job.{Job}
use Rattle.session.specs.declared.Session.{Session}
use Rattle.session.specs.declared.Answer.{Answer}
use Rattle.session.specs.Reading.{idle, job_at, waits, ahead}
use Rattle.session.specs.Facts.{Running, Choice}
use Rattle.session.specs.Calls.{Shown, shown, aged_job, over_by, over_after, given_job}
use Rattle.session.specs.Arrive.{with_arrived, arrived_other}
use Rattle.guarantee.specs.Ledger.{Call, arrive, choose, advance, finish, Event, Ledger, ran, ended, noted, kept}
use Rattle.guarantee.specs.Statement.{outcome_of}
use Rattle.guarantee.specs.History.{overtakes, counted, recounted, counts_after}
use Rattle.guarantee.specs.Good.{Good, good_places}
use Rattle.guarantee.specs.Effects.{Effect, refusal, arrived, chosen, advanced, finished, effect_of}
use Rattle.guarantee.specs.KeepsJobs.{job_after, aged_passed, aged_worked, given_other, given_over}
use Rattle.guarantee.specs.TiesRow.{Follows}
use Rattle.guarantee.specs.Responds.{Reached, reached_paired, tied_idle}
use Rattle.guarantee.proofs.RespondsLaws.{reached_call, tied_later}
use Rattle.guarantee.specs.After.{event_of}
use Rattle.response.specs.Jobs.{JobLine, latest_of, line_by_lem, line_of, ended_by, ended as ended_item, pending, ended_items, pending_item}
use Rattle.response.specs.Latest.{latest_waits, latest_none, latest_counted, counted_paired, latest_changed}

-- ---- definitions

-- after n ticks of the choice in force each waiting job of strictly earlier deadline has n inversion ticks more, and all of them under idle
unfoldable pub aged : Session → List ℕ → ℕ → List ℕ
aged s xs n = fold_to (λ v i. set v i (get_or xs i 0 + gate (ahead s s.chosen i) n)) xs s.count

-- after a call with an answer of this number
unfoldable pub tallied : Session → Call → ℕ → List ℕ → List ℕ
tallied s (arrive row) number xs = cond (eqb number 0) (set xs row 0) xs
tallied s (choose w) number xs = xs
tallied s (advance n) number xs = cond (eqb number 0) (aged s xs n) xs
tallied s finish number xs = xs

-- xs has the inversion ticks of each row's waiting job, and none has more of them than the clock shows
pub record Watched (l : List ℕ) (g : Ledger) (cs : List ℕ) (s : Session) (xs : List ℕ) : Type 0 where
  pub reached : Reached l g cs s
  pub counts : (i : ℕ) → i < s.count → 1 ≤ (job_at s i).left → (latest_of i g.entries cs).inversions ≡ get_or xs i 0
  pub small : (i : ℕ) → get_or xs i 0 ≤ s.clock
  pub places : length xs ≡ 16

-- ---- the line of a waiting job

module _ {l : List ℕ} {g : Ledger} {cs : List ℕ} {s : Session} {xs : List ℕ} (w : Watched l g cs s xs) (i : ℕ) where
  paired : length cs ≡ length g.entries
  paired = reached_paired w.reached

  follows : Follows (tasks_of l) i (job_at s i) g.entries
  follows = w.reached.tied.rows i

  -- it arrived D before its deadline
  watched_arrival : (bs : List ℕ) → length bs ≡ length g.entries → 1 ≤ (job_at s i).left
      → (latest_of i g.entries bs).arrival ≡ (job_at s i).due - (tasks_of l).D i
  watched_arrival bs p some = omega (arith, (latest_waits (tasks_of l) i bs p some follows).1)

  -- so that D does not exceed its deadline
  pub watched_deadline : 1 ≤ (job_at s i).left → (tasks_of l).D i ≤ (job_at s i).due
  watched_deadline some = omega (arith, (latest_waits (tasks_of l) i cs paired some follows).1)

  pub pending_some : i < s.count → 1 ≤ (job_at s i).left
      → pending_item (tasks_of l) g cs i ≡ pending (line_by_lem (tasks_of l) s.clock i ((job_at s i).due - (tasks_of l).D i) (get_or xs i 0)) ∷ []
  unfolding pending_item
  pending_some h some =
      simp (latest_waits (tasks_of l) i cs paired some follows).0
      (rw (w.reached.tied.clock, watched_arrival cs paired some, w.counts i h some))

  pub pending_none : (job_at s i).left ≡ 0 → pending_item (tasks_of l) g cs i ≡ []
  unfolding pending_item
  pending_none z = simp (latest_none (tasks_of l) i cs z follows)

-- ---- a call

-- what the ledger has of a row is not changed by a choice, and by ticks only where they count
advance_latest : (τ : TaskSet) (g : Ledger) (n : ℕ) (a : Shown) (i : ℕ) (bs : List ℕ)
    → ((latest_of i (noted τ g (advance n) a).entries bs).arrival ≡ (latest_of i g.entries bs).arrival)
    × ((latest_of i (noted τ g (advance n) a).entries bs).inversions ≡ (latest_of i g.entries bs).inversions)
unfolding noted
advance_latest τ g n a i bs =
    both (eqb g.chosen idle) (λ t. simp t (refl, refl))
    (λ t. simp t (latest_changed i g.chosen (ran τ (g.clock + n) n) (λ e. refl) (λ e. refl) g.entries bs))

finish_latest : (τ : TaskSet) (g : Ledger) (a : Shown) (i : ℕ) (bs : List ℕ)
    → ((latest_of i (noted τ g finish a).entries bs).arrival ≡ (latest_of i g.entries bs).arrival)
    × ((latest_of i (noted τ g finish a).entries bs).inversions ≡ (latest_of i g.entries bs).inversions)
unfolding noted
finish_latest τ g a i bs = latest_changed i g.chosen (ended g.clock) (λ e. refl) (λ e. refl) g.entries bs

-- the ticks that count
aged_at : (s : Session) (xs : List ℕ) (n i : ℕ) → s.count ≤ length xs → i < s.count → get_or (aged s xs n) i 0 ≡ get_or xs i 0 + gate (ahead s s.chosen i) n
unfolding aged
aged_at s xs n i h k = put_at (λ j. get_or xs j 0 + gate (ahead s s.chosen j) n) xs s.count 0 h i k

aged_most : (s : Session) (xs : List ℕ) (n i : ℕ) → s.count ≤ length xs → get_or (aged s xs n) i 0 ≤ get_or xs i 0 + n
unfolding aged
aged_most s xs n i h =
    dite (dec_lt i s.count) (λ k. omega (arith, aged_at s xs n i h k, gate_le (ahead s s.chosen i) n))
    (λ k. omega (arith, past k))
  where
    past : ¬ (i < s.count) → get_or (aged s xs n) i 0 ≡ get_or xs i 0
    past k = put_past (λ j. get_or xs j 0 + gate (ahead s s.chosen j) n) xs s.count 0 i (omega arith)

module _ (l : List ℕ) (g : Ledger) (cs : List ℕ) (s : Session) (xs : List ℕ) (w : Watched l g cs s xs) where
  abbrev τ : TaskSet
  τ = tasks_of l

  good : Good l s
  good = w.reached.good

  few : s.count ≤ length xs
  few = omega (arith, good.count, good.fit.few, w.places)

  -- by the ledger and by the session alike
  over_ahead : (ch : Choice s) (i : ℕ) → 1 ≤ (job_at s i).left → overtakes τ g (job_at s i).due ≡ ahead s s.chosen i
  unfolding ahead waits
  over_ahead ch i some =
      ⊎_elim
      (λ e. tied_idle l g s good w.reached.tied ch.some e (job_at s i).due
      ∙ sym (simp (lt-ltb 0 (job_at s i).left some, eq-eqb s.chosen idle e)))
      (λ (r : Running s).
      let ne : ¬ (s.chosen ≡ idle) = λ q. omega (arith, r.known, good.count, good.fit.few) in
      tied_later l g s good w.reached.tied ch.some r (job_at s i).due
      ∙ sym (simp (lt-ltb 0 (job_at s i).left some, ne_eqb s.chosen idle ne)))
      ch.runs

  -- a job that waits after n ticks waited before them
  aged_waited : (n i : ℕ) → i < s.count → 1 ≤ (job_after s (aged_job s n) i).left → 1 ≤ (job_at s i).left
  aged_waited n i h some =
      dite (ℕ_discrete i s.chosen) (λ e. omega (arith, (aged_worked s (good_places good) n i h e).left))
      (λ ne. omega (arith, (aged_passed s (good_places good) n i h ne).rest.left))

  given_waited : (r : Running s) (i : ℕ) → i < s.count → 1 ≤ (job_after s (given_job s) i).left → 1 ≤ (job_at s i).left
  given_waited r i h some =
      dite (ℕ_discrete i s.chosen)
      (λ e. absurd (omega (arith, ap (λ (j : Job). j.left) (ap (job_after s (given_job s)) e ∙ given_over s (good_places good) r.known))))
      (λ ne. omega (arith, (given_other s (good_places good) i h ne).rest.left))

  -- the counts of the waiting jobs, call by call
  count_new : (k : ℕ) (a : Shown) (i : ℕ) → k < s.count → i < s.count → 1 ≤ (job_at (with_arrived s k) i).left
      → (latest_of i (noted τ g (arrive k) a).entries (0 ∷ cs)).inversions ≡ get_or (set xs k 0) i 0
  unfolding noted latest_of
  count_new k a i row h some =
      dite (ℕ_discrete i k)
      (λ e. simp (eq-eqb k i (sym e)) (rw e (sym (get_or-set_same xs k 0 0 (omega (arith, few))))))
      (λ ne.
      simp (ne_eqb k i (λ q. ne (sym q)))
      (w.counts i h (rw (arrived_other s k i ne) at some) ∙ sym (get_or-set_other xs k i 0 0 ne)))

  count_chosen : (v : List ℕ) (a : Shown) (i : ℕ) → i < s.count → 1 ≤ (job_at s i).left → (latest_of i (noted τ g (choose v) a).entries cs).inversions ≡ get_or xs i 0
  unfolding noted
  count_chosen v a i h some = w.counts i h some

  count_advanced : (ch : Choice s) (n : ℕ) (a : Shown) (i : ℕ) → i < s.count → 1 ≤ (job_after s (aged_job s n) i).left
      → (latest_of i (noted τ g (advance n) a).entries (counted τ g n g.entries cs)).inversions ≡ get_or (aged s xs n) i 0
  count_advanced ch n a i h some =
      let before = aged_waited n i h some in
      (advance_latest τ g n a i (counted τ g n g.entries cs)).1
      ∙ latest_counted τ i g n cs (reached_paired w.reached) before (w.reached.tied.rows i)
      ∙ rw (w.counts i h before, over_ahead ch i before) (sym (aged_at s xs n i few h))

  count_finished : (r : Running s) (a : Shown) (i : ℕ) → i < s.count → 1 ≤ (job_after s (given_job s) i).left
      → (latest_of i (noted τ g finish a).entries cs).inversions ≡ get_or xs i 0
  count_finished r a i h some = (finish_latest τ g a i cs).1 ∙ w.counts i h (given_waited r i h some)

  tallied_refused : (c : Call) (number : ℕ) → ¬ (number ≡ 0) → tallied s c number xs ≡ xs
  unfolding tallied
  tallied_refused (arrive row) number ne = simp (ne_eqb number 0 ne)
  tallied_refused (choose v) number ne = refl
  tallied_refused (advance n) number ne = simp (ne_eqb number 0 ne)
  tallied_refused finish number ne = refl

  counts_effect : {c : Call} {s' : Session} {a : Answer} → Effect s c s' a → (i : ℕ) → i < s'.count → 1 ≤ (job_at s' i).left
      → (latest_of i (kept τ g (record { call = c; answer = shown a })).entries (counts_after τ g cs (record { call = c; answer = shown a }))).inversions
      ≡ get_or (tallied s c (shown a).number xs) i 0
  unfolding kept counts_after recounted tallied
  counts_effect (refusal {c = c} a z) i h some =
      let ne : ¬ ((shown a).number ≡ 0) = λ q. omega arith in
      simp (ne_eqb (shown a).number 0 ne) (w.counts i h some ∙ ap (λ (v : List ℕ). get_or v i 0) (sym (tallied_refused c (shown a).number ne)))
  counts_effect (arrived k row ready) i h some = count_new k _ i row h some
  counts_effect (chosen v) i h some = count_chosen v _ i h some
  counts_effect (advanced n ch high end) i h some = count_advanced ch n _ i h some
  counts_effect (finished ch r) i h some = count_finished r _ i h some

  small_effect : {c : Call} {s' : Session} {a : Answer} → Effect s c s' a → (i : ℕ) → get_or (tallied s c (shown a).number xs) i 0 ≤ s'.clock
  unfolding tallied
  small_effect (refusal {c = c} a z) i = rw (tallied_refused c (shown a).number (λ q. omega arith)) (w.small i)
  small_effect (arrived k row ready) i =
      dite (ℕ_discrete i k) (λ e. rw (e, get_or-set_same xs k 0 0 (omega (arith, few))) (omega arith))
      (λ ne. rw (get_or-set_other xs k i 0 0 ne) (w.small i))
  small_effect (chosen v) i = w.small i
  small_effect (advanced n ch high end) i = omega (arith, aged_most s xs n i few, w.small i)
  small_effect (finished ch r) i = w.small i

  tallied_length : (c : Call) (number : ℕ) → length (tallied s c number xs) ≡ length xs
  unfolding tallied aged
  tallied_length (arrive row) number = both (eqb number 0) (λ t. simp t (length-set xs row 0)) (λ t. simp t)
  tallied_length (choose v) number = refl
  tallied_length (advance n) number =
      both (eqb number 0) (λ t. simp t (put_length (λ j. get_or xs j 0 + gate (ahead s s.chosen j) n) xs s.count)) (λ t. simp t)
  tallied_length finish number = refl

  pub watched_call : (c : Call) → Watched l (kept τ g (event_of s c)) (counts_after τ g cs (event_of s c)) (outcome_of s c).session
      (tallied s c (shown (outcome_of s c).answer).number xs)
  watched_call c =
      let f = effect_of s good.sound c in
      record {
        reached = reached_call l g cs s w.reached c;
        counts = counts_effect f;
        small = small_effect f;
        places = tallied_length c (shown (outcome_of s c).answer).number ∙ w.places;
      }

  -- ---- the line of a job that is over

  abbrev over_line : ℕ → JobLine
  over_line clock = line_by_lem τ clock s.chosen ((job_at s s.chosen).due - τ.D s.chosen) (get_or xs s.chosen 0)

  -- the chosen row's own run does not count
  own_still : (ch : Choice s) (r : Running s) (n : ℕ) → (latest_of s.chosen g.entries (counted τ g n g.entries cs)).inversions ≡ get_or xs s.chosen 0
  unfolding ahead
  own_still ch r n =
      let some : 1 ≤ (job_at s s.chosen).left = omega (arith, r.within, ch.some) in
      latest_counted τ s.chosen g n cs (reached_paired w.reached) some (w.reached.tied.rows s.chosen)
      ∙ omega (
        arith,
        w.counts s.chosen r.known some,
        gate_off (overtakes τ g (job_at s s.chosen).due) n
            (tied_later l g s good w.reached.tied ch.some r (job_at s s.chosen).due ∙ le-ltb (job_at s s.chosen).due (job_at s s.chosen).due (omega arith)),
      )

  -- a job is over only by a call that is accepted
  ended_accepted : (c : Call) (a : Shown) → ended_by c a ≡ true → a.number ≡ 0
  unfolding ended_by
  ended_accepted (arrive row) a e = absurd (true≢false (sym e))
  ended_accepted (choose v) a e = absurd (true≢false (sym e))
  ended_accepted (advance n) a e = eqb-true a.number 0 (and-true (eqb a.number 0) (eqb a.second 1) e).0
  ended_accepted finish a e = eqb-true a.number 0 e

  -- by ticks only if a row is chosen
  over_runs : (ch : Choice s) (n : ℕ) → over_after s n ≡ 1 → Running s
  unfolding over_after over_by
  over_runs ch n e =
      ⊎_elim (λ z. let q : 0 ≡ 1 = simp (eq-eqb s.chosen idle z) at e in absurd (omega arith)) (λ r. r) ch.runs

  -- what an event that ends a job prints, and of which row
  abbrev EndsBy : Call → Session → Answer → Type 0
  EndsBy c s' a =
      Choice s × Running s
      × (line_of τ (kept τ g (record { call = c; answer = shown a })) (counts_after τ g cs (record { call = c; answer = shown a }))
      (kept τ g (record { call = c; answer = shown a })).chosen ≡ over_line s'.clock)

  -- by the numbers of its row's latest entry
  line_is : (h : Ledger) (bs : List ℕ) (clock : ℕ) → h.clock ≡ clock → h.chosen ≡ s.chosen
      → (latest_of s.chosen h.entries bs).arrival ≡ (job_at s s.chosen).due - τ.D s.chosen
      → (latest_of s.chosen h.entries bs).inversions ≡ get_or xs s.chosen 0
      → line_of τ h bs h.chosen ≡ over_line clock
  line_is h bs clock k c a x = rw (c, k, a, x)

  advance_line : (ch : Choice s) (r : Running s) (n : ℕ) (a : Shown)
      → line_of τ (noted τ g (advance n) a) (counted τ g n g.entries cs) (noted τ g (advance n) a).chosen ≡ over_line (s.clock + n)
  unfolding noted
  advance_line ch r n a =
      let bs = counted τ g n g.entries cs in
      let still = advance_latest τ g n a s.chosen bs in
      line_is (noted τ g (advance n) a) bs (s.clock + n) (omega (arith, w.reached.tied.clock)) (w.reached.tied.chosen ch.some)
      (still.0 ∙ watched_arrival w s.chosen bs (counted_paired τ g n g.entries cs (reached_paired w.reached)) (omega (arith, r.within, ch.some)))
      (still.1 ∙ own_still ch r n)

  finish_line : (ch : Choice s) (r : Running s) (a : Shown)
      → line_of τ (noted τ g finish a) cs (noted τ g finish a).chosen ≡ over_line s.clock
  unfolding noted
  finish_line ch r a =
      let some : 1 ≤ (job_at s s.chosen).left = omega (arith, r.within, ch.some) in
      let still = finish_latest τ g a s.chosen cs in
      line_is (noted τ g finish a) cs s.clock w.reached.tied.clock (w.reached.tied.chosen ch.some)
      (still.0 ∙ watched_arrival w s.chosen cs (reached_paired w.reached) some)
      (still.1 ∙ w.counts s.chosen r.known some)

  ended_effect : {c : Call} {s' : Session} {a : Answer} → Effect s c s' a → ended_by c (shown a) ≡ true → EndsBy c s' a
  unfolding kept counts_after recounted ended_by
  ended_effect (refusal {c = c} a z) e = absurd (omega (arith, ended_accepted c (shown a) e))
  ended_effect (arrived k row ready) e = absurd (true≢false (sym e))
  ended_effect (chosen v) e = absurd (true≢false (sym e))
  ended_effect (advanced n ch high end) e =
      let r = over_runs ch n (eqb-true (over_after s n) 1 e) in
      (ch, r, advance_line ch r n _)
  ended_effect (finished ch r) e = (ch, r, finish_line ch r _)

  module _ (c : Call) where
    abbrev after : Event
    after = event_of s c

    pub ended_none : ended_by c after.answer ≡ false → ended_items τ (kept τ g after) (counts_after τ g cs after) after ≡ []
    unfolding ended_items
    ended_none e = simp e

    module _ (e : ended_by c after.answer ≡ true) where
      ends : EndsBy c (outcome_of s c).session (outcome_of s c).answer
      ends = ended_effect (effect_of s good.sound c) e

      pub ended_some : ended_items τ (kept τ g after) (counts_after τ g cs after) after ≡ ended_item (over_line (outcome_of s c).session.clock) ∷ []
      unfolding ended_items
      ended_some = simp e (ap (λ (j : JobLine). ended_item j ∷ []) ends.2)

      -- the row's job was waiting
      pub ended_row : (s.chosen < s.count) × (1 ≤ (job_at s s.chosen).left)
      ended_row = (ends.1.known, omega (arith, ends.1.within, ends.0.some))
