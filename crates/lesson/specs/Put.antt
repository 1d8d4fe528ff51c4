-- The code that writes an answer. Assumes nothing.
use Rattle.std.specs.Prelude.{ℕ, ◌+◌, ◌*◌, ◌%◌, ◌≤◌, ◌<◌, ◌≡◌, Bool, false, List, ltb, length, Option, Some, None, Result, Ok, Err}
use Rattle.std.proofs.Math.Path.{refl, subst}
use Rattle.std.proofs.Common.{sym, ap, ◌∙◌, append-nil}
use Rattle.std.proofs.Math.Bool.{and-false}
use Rattle.std.proofs.Math.Logic.{dite}
use Rattle.std.proofs.lemmas.Option.{none-some, same_Some}
use native.Mathlib.Omega.{arith}
use Rattle.std.proofs.Math.Decide.{dec_lt}
use borrow.Author.Tests.{lt-ltb, le-ltb, ltb-true, ltb-false, le-leb, lt-leb, eq-eqb, ne_eqb}
use Rattle.bounded.specs.Least.{Passed, passed_start, passed_next, first_found, first_none, least_at, least_before}
use Rattle.decimal.specs.Buffer.{Wrote, wrote_none, wrote_more, wrote_within}
use Rattle.decimal.specs.Joined.{Joined, joined_start, joined_all, joined_laws}
use Rattle.edf.specs.Demand.{TaskSet, demand}
use Rattle.game.specs.Game.{line_to, Exceeds}
use Rattle.lines.specs.Text.{line_text}
use Rattle.table.specs.declared.Numbers.{Numbers}
use Rattle.table.specs.declared.rows.Task.{Task}
use Rattle.table.specs.Rows.{tasks_of, Fit, FitRow}
use Rattle.gametree.specs.declared.Finding.{Finding}
use Rattle.gametree.specs.declared.Finding.TheVariants.{Forced, Held}
use Rattle.gametree.specs.declared.Refusal.{Refusal}
use Rattle.gametree.specs.Entry.{search_of, numbers_of}
use Rattle.gametree.specs.Theorems.{search_exact, forced_playing}
use Rattle.lesson.specs.Lesson.{overload_by, overload_within, release_text, tick_text, releases_text, shown_text, finding_text, answer_text}

-- ---- `first_over`

abbrev pub over : TaskSet → ℕ → Bool
over τ t = ltb t (demand τ t)

within_some : (τ : TaskSet) (n : ℕ) → overload_by τ n ≤ n → overload_within τ n ≡ Some (overload_by τ n)
unfolding overload_within
within_some τ n l = simp (le-leb (overload_by τ n) n l)

within_none : (τ : TaskSet) (n : ℕ) → n < overload_by τ n → overload_within τ n ≡ None
unfolding overload_within
within_none τ n l = simp (lt-leb (overload_by τ n) n l)

module _ (τ : TaskSet) (t r : ℕ) (h : Passed (over τ) t) (e : r ≡ demand τ t) where
  pub over_next : r ≤ t → Passed (over τ) (t + 1)
  over_next l = passed_next (over τ) t (over τ t) h refl (le-ltb t (demand τ t) (omega arith))

  found : (n : ℕ) → t < n + 1 → t < r → t ≡ overload_by τ n
  unfolding overload_by
  found n k l = first_found (over τ) t (n + 1) (n + 1) (over τ t) h k refl refl (lt-ltb t (demand τ t) (omega arith))

  pub over_found : (n end : ℕ) → t < end → end ≡ n + 1 → t < r → Some t ≡ overload_within τ n
  over_found n end k q l = let f = found n (omega arith) l in ap Some f ∙ sym (within_some τ n (omega (arith, f)))

none_yet : (τ : TaskSet) (t n : ℕ) → Passed (over τ) t → n + 1 ≤ t → n + 1 ≡ overload_by τ n
unfolding overload_by
none_yet τ t n h k = first_none (over τ) t (n + 1) (n + 1) h k refl

pub over_none : (τ : TaskSet) (t n end : ℕ) → Passed (over τ) t → end ≤ t → end ≡ n + 1 → None ≡ overload_within τ n
over_none τ t n end h k q = let f = none_yet τ t n h (omega arith) in sym (within_none τ n (omega (arith, f)))

pub ruleset over_laws = (passed_start, over_next, over_found, over_none)

-- ---- `put_release`

module _ (τ : TaskSet) (t c i : ℕ) (k : Task) (f : FitRow τ i k) (d : List ℕ) (at : ℕ) where
  nothing : line_to τ t c i ≡ false → Wrote 86 (release_text τ t c i) d d at at
  unfolding release_text
  nothing e = simp e (wrote_none 86 d at)

  pub release_off : (c % k.period ≡ 0 → ⊥) → Wrote 86 (release_text τ t c i) d d at at
  unfolding line_to
  release_off n =
      nothing (simp (ne_eqb (c % τ.T i) 0 (rw f.row.period at n), and-false))

  pub release_late : t < c + k.deadline → Wrote 86 (release_text τ t c i) d d at at
  unfolding line_to
  release_late h = nothing (simp (lt-leb (c + τ.D i) t (rw f.row.deadline at h), and-false))

  pub release_is : (e : List ℕ) (p : ℕ) → i < τ.rows → c % k.period ≡ 0 → c + k.deadline ≤ t
      → Wrote 86 (line_text c 65 0 i (c + k.deadline)) d e at p → Wrote 86 (release_text τ t c i) d e at p
  unfolding release_text line_to
  release_is e p l m h w =
      simp (lt-ltb i τ.rows l, eq-eqb (c % τ.T i) 0 (rw f.row.period at m), le-leb (c + τ.D i) t (rw f.row.deadline at h))
      (rw f.row.deadline at w)

pub ruleset release_cases = (release_off, release_late, release_is)

-- ---- `put_tick`; the code counts the rows

module _ (τ : TaskSet) (t c rows : ℕ) (is : rows ≡ τ.rows) (few : τ.rows ≤ 3) (d : List ℕ) (at : ℕ) where
  pub tick_start : at + 258 ≤ length d → Joined (release_text τ t c) 86 rows d at 0 d at
  tick_start room = joined_start (release_text τ t c) 86 rows d at (omega arith)

  pub tick_end : (i : ℕ) (e : List ℕ) (p : ℕ) → Joined (release_text τ t c) 86 rows d at i e p → rows ≤ i → Wrote 258 (tick_text τ t c) d e at p
  unfolding tick_text
  tick_end i e p x h =
      wrote_within (86 * τ.rows) 258 _ d e at p (omega arith) (rw is at (joined_all (release_text τ t c) 86 rows d at i e p x h))

pub ruleset tick_laws = (tick_start, tick_end, joined_laws)

-- ---- `put_releases`

module _ (τ : TaskSet) (t : ℕ) (short : t ≤ 12) (d : List ℕ) (at : ℕ) where
  pub releases_start : at + 3096 ≤ length d → Joined (tick_text τ t) 258 t d at 0 d at
  releases_start room = joined_start (tick_text τ t) 258 t d at (omega arith)

  pub releases_end : (c : ℕ) (e : List ℕ) (p : ℕ) → Joined (tick_text τ t) 258 t d at c e p → t ≤ c → Wrote 3096 (releases_text τ t) d e at p
  unfolding releases_text
  releases_end c e p x h = wrote_within (258 * t) 3096 _ d e at p (omega arith) (joined_all (tick_text τ t) 258 t d at c e p x h)

pub ruleset releases_laws = (releases_start, releases_end, joined_laws)

-- ---- `put_answer`

-- where the search says that arrivals win, there is such a t
module _ (l : List ℕ) (n : ℕ) (f : Result Finding Refusal) (e : f ≡ search_of l n) (w : f ≡ Ok Forced) where
  pub forced_fit : Fit (tasks_of l)
  forced_fit = (forced_playing l n (sym e ∙ w)).fit

  pub forced_few : (tasks_of l).rows ≤ 3
  forced_few = (forced_playing l n (sym e ∙ w)).few

  pub forced_short : n ≤ 12
  forced_short = omega (arith, (forced_playing l n (sym e ∙ w)).short)

  forced_exceeds : Exceeds (tasks_of l) n
  forced_exceeds = (search_exact l n).1.exceeds (sym e ∙ w)

  pub forced_within : (t : ℕ) → t ≡ overload_by (tasks_of l) n → t ≤ n
  unfolding overload_by
  forced_within t q =
      let x = forced_exceeds in
      dite (dec_lt n t)
      (λ h. absurd (omega (
        arith,
        ltb-false x.0 (demand (tasks_of l) x.0) (least_before (over (tasks_of l)) 0 (n + 1) x.0 (omega arith) (omega (arith, x.1, q, h))),
        x.2,
      )))
      (λ h. omega arith)

  forced_some : overload_within (tasks_of l) n ≡ Some (overload_by (tasks_of l) n)
  forced_some = within_some (tasks_of l) n (forced_within (overload_by (tasks_of l) n) refl)

  module _ (r : Option ℕ) (q : r ≡ overload_within (tasks_of l) n) where
    pub forced_first : (t : ℕ) → r ≡ Some t → t ≡ overload_by (tasks_of l) n
    forced_first t i = same_Some t (overload_by (tasks_of l) n) (sym i ∙ q ∙ forced_some)

    pub forced_twelve : (t : ℕ) → r ≡ Some t → t ≤ 12
    forced_twelve t i = omega (arith, forced_within t (forced_first t i), forced_short)

    pub forced_found : r ≡ None → ⊥
    forced_found i = none-some (overload_by (tasks_of l) n) (sym i ∙ q ∙ forced_some)

-- its demand exceeds it
pub forced_over : (l : List ℕ) (n : ℕ) → search_of l n ≡ Ok Forced → overload_by (tasks_of l) n < demand (tasks_of l) (overload_by (tasks_of l) n)
unfolding overload_by
forced_over l n w =
    let h = forced_within l n (search_of l n) refl w (overload_by (tasks_of l) n) refl in
    ltb-true _ _ (least_at (over (tasks_of l)) 0 (n + 1) (omega arith))

module _ (l : List ℕ) (n : ℕ) (f : Result Finding Refusal) (e : f ≡ search_of l n) (v : Numbers) (s : v ≡ numbers_of f) (b d : List ℕ) (at p : ℕ) (room : at + 3182 ≤ length b)
    (w : Wrote 86 (line_text 0 78 v.number v.first v.second) b d at p) where
  -- the first line, and what was written of the finding x
  head : (x : Result Finding Refusal) → f ≡ x → Wrote 86 (shown_text (numbers_of x)) b d at p
  head x k = subst (λ (y : Numbers). Wrote 86 (shown_text y) b d at p) (s ∙ ap numbers_of k) w

  whole : (x : Result Finding Refusal) → f ≡ x → (g : List ℕ) (q : ℕ) → Wrote 3182 (finding_text l n x) b g at q → Wrote 3182 (answer_text l n) b g at q
  unfolding answer_text
  whole x k g q y = subst (λ (z : Result Finding Refusal). Wrote 3182 (finding_text l n z) b g at q) (sym k ∙ e) y

  module _ (x : Finding) (i : f ≡ Ok x) (j : x ≡ Forced) (r : Option ℕ) (o : r ≡ overload_within (tasks_of l) n) where
    forced : f ≡ Ok Forced
    forced = i ∙ ap Ok j

    pub answer_forced : (t : ℕ) (g : List ℕ) (q : ℕ) → r ≡ Some t → Wrote 3096 (releases_text (tasks_of l) t) d g p q → Wrote 3182 (answer_text l n) b g at q
    answer_forced t g q u y =
        let z = head (Ok Forced) forced in
        whole (Ok Forced) forced g q (wrote_more 86 3096 _ _ b d g at p q (omega (arith, z.short)) z (rw (forced_first l n f e forced r o t u) at y))

    -- nothing is found: it does not happen
    pub answer_nothing : r ≡ None → Wrote 3182 (answer_text l n) b d at p
    answer_nothing u = absurd (forced_found l n f e forced r o u)

  pub answer_held : (x : Finding) → f ≡ Ok x → x ≡ Held → Wrote 3182 (answer_text l n) b d at p
  answer_held x i j =
      let k : f ≡ Ok Held = i ∙ ap Ok j in
      whole (Ok Held) k d p (simp append-nil (wrote_within 86 3182 _ b d at p (omega arith) (head (Ok Held) k)))

  pub answer_refused : (x : Refusal) → f ≡ Err x → Wrote 3182 (answer_text l n) b d at p
  answer_refused x k = whole (Err x) k d p (simp append-nil (wrote_within 86 3182 _ b d at p (omega arith) (head (Err x) k)))

pub ruleset answer_cases = (forced_fit, forced_few, forced_short, forced_twelve, answer_forced, answer_nothing, answer_held, answer_refused)
