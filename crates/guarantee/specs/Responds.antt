-- No job ends later than its bound (docs/SPECIFICATION.md §14.1). For each entry that has no end, clock and load by its deadline are within
-- its arrival, D − V and its count; budgets play no part. Assumes nothing.
-- ---- what holds of each entry and its count
use Rattle.std.specs.Prelude.{ℕ, ◌+◌, ◌≤◌, ◌<◌, ◌≡◌, Bool, ◌||◌, ℤ, pos, ◌+ℤ◌, ◌-ℤ◌, length}
use Rattle.std.proofs.Math.Path.{refl, ap}
use Rattle.std.proofs.Common.{sym, ◌∙◌, true≢false}
use Rattle.std.proofs.Math.Bool.{true}
use mathlib.Core.List.{List, [], ◌∷◌}
use native.Mathlib.Omega.{arith}
use borrow.Author.Tests.{eq-eqb, lt-ltb, le-ltb}
use Rattle.edf.specs.Demand.{TaskSet}
use Rattle.edf.specs.State.{State}
use Rattle.edf.specs.Response.{response_of, reach, reach_left}
use Rattle.table.specs.Rows.{tasks_of, fit_lawful}
use Rattle.table.specs.Verdict.{opinion_of}
use Rattle.table.specs.Budgets.{response_is}
use Rattle.table.proofs.TheoremsLaws.{each_budget}
use Rattle.session.specs.declared.Job.{Job}
use Rattle.session.specs.declared.Session.{Session}
use Rattle.session.specs.Reading.{idle, job_at, rows_of, tasks, waits, state_of}
use Rattle.session.specs.Facts.{Running}
use Rattle.session.specs.Start.{start_of}
use Rattle.guarantee.specs.Ledger.{none, at, Entry, Ledger, empty}
use Rattle.guarantee.specs.History.{due_of, unended, later_than, overtakes}
use Rattle.guarantee.specs.Late.{bound_of, Bounded, AllBounded, no_entry, one_more}
use Rattle.guarantee.specs.Good.{Good}
use Rattle.guarantee.specs.KeepsFresh.{good_fresh}
use Rattle.guarantee.specs.TiesRow.{Stands, over, waiting, Follows, nothing, other, latest, Each}
use Rattle.guarantee.specs.Ties.{Tied, tied_fresh}

-- the bound, as a number
abbrev limit : TaskSet → Entry → ℕ → ℕ
limit τ e c = e.arrival + response_of τ e.row + c

-- while the job waits, all that can be due by its deadline can be done by the bound; once it is over, it ended by then
pub data Held (τ : TaskSet) (s : State) (e : Entry) (c : ℕ) : Type 0 where
  is_open : e.row < τ.rows → e.end ≡ none → reach τ s (due_of τ e) ≤ limit τ e c → Held τ s e c
  is_over : e.row < τ.rows → (x : ℕ) → e.end ≡ at x → x ≤ limit τ e c → Held τ s e c

pub data AllHeld (τ : TaskSet) (s : State) : List Entry → List ℕ → Type 0 where
  none_held : AllHeld τ s [] []
  more : {e : Entry} {es : List Entry} {c : ℕ} {l : List ℕ} → Held τ s e c → AllHeld τ s es l → AllHeld τ s (e ∷ es) (c ∷ l)

-- ---- the entry of a waiting job

-- an entry that has no end has none
pub no_end : {P : Type 0} (e : Entry) (x : ℕ) → e.end ≡ none → e.end ≡ at x → P
no_end e x p q = absurd (true≢false (ap unended (sym p ∙ q)))

-- it has no end, and the job's deadline
pub stands_open : (τ : TaskSet) (k : ℕ) (j : Job) (e : Entry) → e.row ≡ k → 1 ≤ j.left → Stands τ k j e → (e.end ≡ none) × (due_of τ e ≡ j.due)
stands_open τ k j e q some (over x z p h) = absurd (omega arith)
stands_open τ k j e q some (waiting r u p a c) = (p, rw q a)

overtakes_idle : (τ : TaskSet) (g : Ledger) (d : ℕ) → g.chosen ≡ idle → overtakes τ g d ≡ true
unfolding overtakes
overtakes_idle τ g d e = ap (λ (b : Bool). b || later_than τ g.chosen d g.entries) (eq-eqb g.chosen idle e)

-- by the session: idle is chosen, or the chosen row's job is due strictly later
module _ (l : List ℕ) (g : Ledger) (s : Session) (good : Good l s) (tied : Tied l g s) (force : 1 ≤ s.span) where
  pub tied_idle : s.chosen ≡ idle → (d : ℕ) → overtakes (tasks_of l) g d ≡ true
  tied_idle e d = overtakes_idle (tasks_of l) g d (tied.chosen force ∙ e)

  module _ (r : Running s) where
    pub not_idle_lem : ¬ (g.chosen ≡ idle)
    not_idle_lem q = omega (arith, tied.chosen force, r.known, good.count, good.fit.few)

    pub tied_follows : Follows (tasks_of l) g.chosen (job_at s s.chosen) g.entries
    tied_follows = rw (tied.chosen force) (tied.rows s.chosen)

-- ---- each call

module _ (s : Session) (good : Good (rows_of s) s) (g : Ledger) (tied : Tied (rows_of s) g s) where
  abbrev pub τ : TaskSet
  τ = tasks s

  -- the job of the chosen row
  module _ (force : 1 ≤ s.span) (r : Running s) where
    pub some : 1 ≤ (job_at s s.chosen).left
    some = omega (arith, r.within)

-- ---- over every list of calls

-- what each call keeps
pub record Reached (l : List ℕ) (g : Ledger) (cs : List ℕ) (s : Session) : Type 0 where
  pub good : Good l s
  pub tied : Tied l g s
  pub held : AllHeld (tasks_of l) (state_of s) g.entries cs

-- there is one count to each entry
held_paired : (τ : TaskSet) (s : State) {es : List Entry} {l : List ℕ} → AllHeld τ s es l → length l ≡ length es
held_paired τ s none_held = refl
held_paired τ s (more a r) = omega (arith, held_paired τ s r)

pub reached_paired : {l : List ℕ} {g : Ledger} {cs : List ℕ} {s : Session} → Reached l g cs s → length cs ≡ length g.entries
reached_paired {l = l} {s = s} r = held_paired (tasks_of l) (state_of s) r.held

pub reached_fresh : (l : List ℕ) → (opinion_of l).number ≡ 0 → (s₀ : Session) → Reached l empty [] (start_of s₀ l)
reached_fresh l e s₀ = record { good = good_fresh l e s₀; tied = tied_fresh l e s₀; held = none_held }

-- ---- what is held is bounded: a waiting job has something left to run

-- an entry of row i that has no end is that of the row's waiting job
abbrev Open : TaskSet → Session → ℕ → Entry → Type 0
Open τ s i e = e.end ≡ none → (i < τ.rows) × (1 ≤ (job_at s i).left) × (due_of τ e ≡ (job_at s i).due)

follows_open : (τ : TaskSet) (s : Session) (i : ℕ) {j : Job} {es : List Entry}
    → (i < τ.rows → 1 ≤ j.left → (1 ≤ (job_at s i).left) × (j.due ≡ (job_at s i).due)) → Follows τ i j es → Each i (Open τ s i) es
follows_open τ s i h (nothing z) = tt
follows_open τ s i h (other ne r) = (λ q. absurd (ne q), follows_open τ s i h r)
follows_open τ s i h (latest {e = e} q (over x z p k) r) = (λ u o. no_end e x o p, follows_open τ s i (λ b some. absurd (omega arith)) r)
follows_open τ s i h (latest {e = e} q (waiting b some p a c) r) =
    (λ u o. let f = h b some in (b, f.0, rw q (a ∙ f.1)), follows_open τ s i (λ b some. absurd (omega arith)) r)

module _ (l : List ℕ) (admitted : (opinion_of l).number ≡ 0) where
  -- the bound is the number that it was held by
  pub bound_is : (e : Entry) (c : ℕ) → e.row < (tasks_of l).rows → bound_of l e c ≡ pos (e.arrival + response_of (tasks_of l) e.row + c)
  bound_is e c k =
      ap (λ (z : ℤ). pos e.arrival +ℤ z +ℤ pos c)
      (ap (λ (v : ℤ). pos ((tasks_of l).D e.row) -ℤ v) (each_budget l admitted e.row k) ∙ sym (response_is (tasks_of l) e.row))

  module _ (s : Session) (good : Good l s) (clock : ℕ) (same : clock ≡ s.clock) where
    held_bounded : {e : Entry} {c : ℕ} → Open (tasks_of l) s e.row e → Held (tasks_of l) (state_of s) e c → Bounded l clock e c
    unfolding waits
    held_bounded {e} {c} o (is_open k p b) =
        let f = o p in
        rw (p, bound_is e c k)
        (lt-ltb clock (limit (tasks_of l) e c)
        (omega (
          arith,
          reach_left (tasks_of l) (fit_lawful (tasks_of l) good.fit) (state_of s) e.row f.0 (lt-ltb 0 (job_at s e.row).left f.1),
          ap (reach (tasks_of l) (state_of s)) f.2,
          f.1,
        )))
    held_bounded {e} {c} o (is_over k y p b) = rw (p, bound_is e c k) (le-ltb (limit (tasks_of l) e c) y (omega arith))

    all_bounded : {es : List Entry} {cs : List ℕ} → ((i : ℕ) → Each i (Open (tasks_of l) s i) es) → AllHeld (tasks_of l) (state_of s) es cs
        → AllBounded l clock es cs
    all_bounded o none_held = no_entry
    all_bounded o (more {e = e} a r) = one_more (held_bounded ((o e.row).0 refl) a) (all_bounded (λ i. (o i).1) r)

pub reached_bounded : (l : List ℕ) → (opinion_of l).number ≡ 0 → (g : Ledger) (cs : List ℕ) (s : Session) → Reached l g cs s
    → AllBounded l g.clock g.entries cs
reached_bounded l e g cs s r =
    all_bounded l e s r.good g.clock r.tied.clock
    (λ i. follows_open (tasks_of l) s i (λ b some. (some, refl)) (r.tied.rows i)) r.held
