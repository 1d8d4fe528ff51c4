-- What `opinion` promises, and the cases of its code. Assumes nothing.
use Prim.Native.Nat.{ℕ, ◌%◌, ◌≤◌, ◌<◌, min}
use Rattle.std.specs.Prelude.{◌≡◌, refl, Bool, true, false, not, List, Option, Some, None, is_none, ltb, eqb, pos, length, replicate, Result, Ok, Err, is_err}
use Rattle.std.proofs.Math.Path.{sym, ap}
use Rattle.std.proofs.Common.{◌∙◌, true≢false, arith}
use Rattle.std.proofs.Math.Bool.{cond}
use borrow.Author.Tests.{eq-eqb, ne_eqb, lt-ltb, le-ltb, le-leb, lt-leb, ltb-true, ltb-false, eqb-true, eqb-false}
use Rattle.bounded.specs.Tests.{both}
use Rattle.bounded.specs.Least.{least_from, least_found, least_none}
use Rattle.edf.specs.Demand.{TaskSet, demand}
use Rattle.table.specs.declared.kind.Kind.{Kind}
use Rattle.table.specs.declared.kind.Kind.TheVariants.{Loose, Tight, Mixed}
use Rattle.table.specs.declared.Refusal.{Refusal}
use Rattle.table.specs.declared.Refusal.TheVariants.{Length, Row, Overload, Unsettled}
use Rattle.table.specs.declared.Numbers.{Numbers}
use Rattle.table.specs.declared.Judgement.{Judgement}
use Rattle.table.specs.declared.budgets.Budgets.{Budgets}
use Rattle.table.specs.declared.busy.Busy.{Busy}
use Rattle.table.specs.declared.overload.Found.{Found}
use Rattle.table.specs.declared.first.Counted.{Counted}
use Rattle.table.specs.Rows.{horizon, tasks_of, first_broken_lem, FirstBroken, Fit, fit_of}
use Rattle.table.specs.Budgets.{loose, values_of, marks_of, budgets_of}
use Rattle.table.specs.Busy.{busy_length, or_past, Settled, length_some, length_none}
use Rattle.table.specs.Overload.{Searched, over, none}
use Rattle.table.specs.First.{First}
use Rattle.table.specs.Verdict.{Opinion, refusal, admitted, bad_length, compared_to, first_overload, overloaded, settled, heavy_kind, judged_of, opinion_of}

-- the number of a kind, as an opinion's first value has it
abbrev pub kind_number : Kind → ℕ
kind_number Loose = 1
kind_number Tight = 2
kind_number Mixed = 3

pub kind_some_number : (k : Kind) → kind_number k ≡ 0 → ⊥
kind_some_number Loose z = omega arith
kind_some_number Tight z = omega arith
kind_some_number Mixed z = omega arith

-- each opinion's number, its two values and V of each row (docs/SPECIFICATION.md §3.2)
abbrev pub shown_of : Result Judgement Refusal → Opinion
shown_of (Ok j) = record { number = 0; first = kind_number j.kind; second = j.rows; budgets = j.budgets }
shown_of (Err (Length n)) = refusal 1 n 0
shown_of (Err (Row i)) = refusal 2 i 0
shown_of (Err (Overload t d)) = refusal 3 t d
shown_of (Err Unsettled) = refusal 4 horizon 0

-- n has the number and the values of the opinion v
pub record Shows (v : Result Judgement Refusal) (n : Numbers) : Type 0 where
  pub number : n.number ≡ (shown_of v).number
  pub first : n.first ≡ (shown_of v).first
  pub second : n.second ≡ (shown_of v).second

-- v says what the opinion o says, but for the budgets: its number and values
pub record Says (v : Result Judgement Refusal) (o : Opinion) : Type 0 where
  pub number : (shown_of v).number ≡ o.number
  pub first : (shown_of v).first ≡ o.first
  pub second : (shown_of v).second ≡ o.second

-- the numbers with the budgets are the opinion
pub shows_of : (v : Result Judgement Refusal) (n : Numbers) → Shows v n
    → shown_of v ≡ record { number = n.number; first = n.first; second = n.second; budgets = (shown_of v).budgets }
shows_of v n s = rw (s.number, s.first, s.second) refl

-- so where v is the opinion on l, its numbers are that opinion's
pub shows_opinion : (l : List ℕ) (v : Result Judgement Refusal) (n : Numbers) → shown_of v ≡ opinion_of l → Shows v n
    → record { number = n.number; first = n.first; second = n.second; budgets = (shown_of v).budgets } ≡ opinion_of l
shows_opinion l v n h s = sym (shows_of v n s) ∙ h

-- two opinions with the same number, values and budgets are the same
kind_in_lem : ℕ → Kind
kind_in_lem k = cond (eqb k 1) Loose (cond (eqb k 2) Tight Mixed)

opinion_in : Opinion → Result Judgement Refusal
opinion_in o =
    cond (eqb o.number 0) (Ok (record { kind = kind_in_lem o.first; rows = o.second; budgets = o.budgets }))
    (Err (cond (eqb o.number 1) (Length o.first) (cond (eqb o.number 2) (Row o.first) (cond (eqb o.number 3) (Overload o.first o.second) Unsettled))))

opinion_in_lem : (v : Result Judgement Refusal) → opinion_in (shown_of v) ≡ v
unfolding opinion_in kind_in_lem
opinion_in_lem (Ok j) = by j j.kind refl
  where
    by : (j : Judgement) (k : Kind) → j.kind ≡ k → opinion_in (shown_of (Ok j)) ≡ Ok j
    by j Loose e = rw e refl
    by j Tight e = rw e refl
    by j Mixed e = rw e refl
opinion_in_lem (Err (Length n)) = refl
opinion_in_lem (Err (Row i)) = refl
opinion_in_lem (Err (Overload t d)) = refl
opinion_in_lem (Err Unsettled) = refl

pub shown_one : (v w : Result Judgement Refusal) → shown_of v ≡ shown_of w → v ≡ w
shown_one v w e = sym (opinion_in_lem v) ∙ ap opinion_in e ∙ opinion_in_lem w

-- an opinion but for its budgets
abbrev pub verdict_of : Result Judgement Refusal → Result Judgement Refusal
verdict_of (Ok j) = Ok (record { kind = j.kind; rows = j.rows; budgets = replicate 16 (pos 0) })
verdict_of (Err r) = Err r

verdict_in_lem : (v : Result Judgement Refusal)
    → opinion_in (record { number = (shown_of v).number; first = (shown_of v).first; second = (shown_of v).second; budgets = replicate 16 (pos 0) })
    ≡ verdict_of v
verdict_in_lem (Ok j) = opinion_in_lem (Ok (record { kind = j.kind; rows = j.rows; budgets = replicate 16 (pos 0) }))
verdict_in_lem (Err (Length n)) = opinion_in_lem (Err (Length n))
verdict_in_lem (Err (Row i)) = opinion_in_lem (Err (Row i))
verdict_in_lem (Err (Overload t d)) = opinion_in_lem (Err (Overload t d))
verdict_in_lem (Err Unsettled) = opinion_in_lem (Err Unsettled)

-- so two that say the same are the same but for these
pub says_one : (v w : Result Judgement Refusal) (o : Opinion) → Says v o → Says w o → verdict_of v ≡ verdict_of w
says_one v w o h g =
    sym (verdict_in_lem v) ∙ rw (h.number, h.first, h.second, ← g.number, ← g.first, ← g.second) (verdict_in_lem w)

-- a refusal has a number above 0
pub refusal_some : (r : Refusal) → (shown_of (Err r)).number ≡ 0 → ⊥
refusal_some (Length n) z = omega arith
refusal_some (Row i) z = omega arith
refusal_some (Overload t d) z = omega arith
refusal_some Unsettled z = omega arith

-- and no budgets
pub refused_budgets : (r : Refusal) → (shown_of (Err r)).budgets ≡ replicate 16 (pos 0)
refused_budgets (Length n) = refl
refused_budgets (Row i) = refl
refused_budgets (Overload t d) = refl
refused_budgets Unsettled = refl

pub refused_number : (v : Result Judgement Refusal) → is_err v ≡ not (eqb (shown_of v).number 0)
refused_number (Ok j) = refl
refused_number (Err (Length n)) = refl
refused_number (Err (Row i)) = refl
refused_number (Err (Overload t d)) = refl
refused_number (Err Unsettled) = refl

-- an opinion says what it is
pub says_of : (v : Result Judgement Refusal) (o : Opinion) → shown_of v ≡ o → Says v o
says_of v o e = rw (← e) (record { number = refl; first = refl; second = refl })

-- ---- the length

pub bad_none : (n : ℕ) → n ≡ 0 → true ≡ bad_length n
unfolding bad_length
bad_none n h = simp (eq-eqb n 0 h)

pub bad_long : (n : ℕ) → (n ≡ 0 → ⊥) → 48 < n → true ≡ bad_length n
unfolding bad_length
bad_long n h l = simp (ne_eqb n 0 h, lt-ltb 48 n l)

pub bad_rest : (n : ℕ) → (n ≡ 0 → ⊥) → n ≤ 48 → not (eqb (n % 3) 0) ≡ bad_length n
unfolding bad_length
bad_rest n h l = simp (ne_eqb n 0 h, le-ltb 48 n l)

pub good_length : (n : ℕ) → bad_length n ≡ false → (1 ≤ n) × (n ≤ 48) × (n % 3 ≡ 0)
unfolding bad_length
good_length n e =
    both (eqb n 0) (λ p. clash (bad_none n (eqb-true n 0 p)))
    (λ p. both (ltb 48 n) (λ q. clash (bad_long n (eqb-false n 0 p) (ltb-true 48 n q)))
    (λ q. both (eqb (n % 3) 0) (λ r. (omega (arith, eqb-false n 0 p), ltb-false 48 n q, eqb-true (n % 3) 0 r))
    (λ r. clash (ap not (sym r) ∙ bad_rest n (eqb-false n 0 p) (ltb-false 48 n q)))))
  where
    clash : true ≡ bad_length n → (1 ≤ n) × (n ≤ 48) × (n % 3 ≡ 0)
    clash t = absurd (true≢false (t ∙ e))

pub length_fit : (l : List ℕ) → bad_length (length l) ≡ false → (1 ≤ (tasks_of l).rows) × ((tasks_of l).rows ≤ 16)
unfolding tasks_of
length_fit l e = let g = good_length (length l) e in (omega arith, omega arith)

-- ---- the compared range

-- where none of the range is exceeded, the first overload lies past it
pub overloaded_none : (τ : TaskSet) → ((x : ℕ) → 1 ≤ x → x ≤ compared_to τ → demand τ x ≤ x) → overloaded τ ≡ false
unfolding overloaded first_overload
overloaded_none τ h =
    lt-leb (least_from (λ t. ltb t (demand τ t)) 1 (compared_to τ)) (compared_to τ)
    (omega (arith, least_none (λ t. ltb t (demand τ t)) 1 (compared_to τ) (λ x l k. le-ltb x (demand τ x) (h x l (omega arith)))))

-- a tick of the range that is exceeded, where none before it is, is the first overload
pub overloaded_first : (τ : TaskSet) (t : ℕ) → 1 ≤ t → t ≤ compared_to τ → t < demand τ t → ((x : ℕ) → 1 ≤ x → x < t → demand τ x ≤ x)
    → (t ≡ first_overload τ) × (overloaded τ ≡ true)
unfolding overloaded first_overload
overloaded_first τ t l h o before = (is, le-leb (least_from (λ t. ltb t (demand τ t)) 1 (compared_to τ)) (compared_to τ) (omega (arith, is)))
  where
    is : t ≡ least_from (λ t. ltb t (demand τ t)) 1 (compared_to τ)
    is =
        least_found (λ t. ltb t (demand τ t)) 1 (compared_to τ) t l (omega arith) (lt-ltb t (demand τ t) o)
        (λ j p q. le-ltb j (demand τ j) (before j p q))

-- ---- the code's ways out, for rows that keep their rule

module _ (τ : TaskSet) (b : Budgets) (e : b ≡ budgets_of τ) where
  pub is_loose_lem : b.loose ≡ loose τ
  unfolding budgets_of
  is_loose_lem = ap (λ z. z.loose) e

  pub heavy_kind_lem : (f : Bool) → b.firm ≡ f → heavy_kind τ ≡ cond f 3 2
  unfolding budgets_of heavy_kind
  heavy_kind_lem f t = ap (λ (x : Bool). cond x 3 2) (sym (ap (λ z. z.firm) e) ∙ t)

  pub is_marks : b.brittle ≡ marks_of τ
  unfolding budgets_of
  is_marks = ap (λ z. z.brittle) e

  pub is_values : b.values ≡ values_of τ
  unfolding budgets_of
  is_values = ap (λ z. z.values) e

  pub judge_loose : (n : ℕ) → n ≡ τ.rows → b.loose ≡ true → shown_of (Ok (record { kind = Loose; rows = n; budgets = b.values })) ≡ judged_of τ
  unfolding judged_of
  judge_loose n h t = simp (sym is_loose_lem ∙ t, h, is_values)

  module _ (y : Busy) (s : Settled τ y) (end : ℕ) (m : end ≡ min (or_past y.length) 1000000) (no : b.loose ≡ false) where
    is_compared : end ≡ compared_to τ
    unfolding compared_to
    is_compared = m ∙ ap (λ (z : ℕ). min z 1000000) s.is

    pub judge_overload : (f : Found) (n : ℕ) (g : Counted) → Searched τ 0 end (Some f) n → First τ (record { found = f; sums = n }) g
        → shown_of (Err (Overload g.found.at g.found.demand)) ≡ judged_of τ
    unfolding judged_of
    judge_overload f n g (over x) w =
        let h = overloaded_first τ g.found.at w.low (omega (arith, w.high, x.high, is_compared)) (omega (arith, w.is, w.over)) w.before in
        simp (sym is_loose_lem ∙ no, h.1, w.is, h.0)

    module _ (n : ℕ) (o : Option Found) (r : Searched τ 0 end o n) (z : o ≡ None) where
      found_none : overloaded τ ≡ false
      found_none = by r z
        where
          by : {o : Option Found} → Searched τ 0 end o n → o ≡ None → overloaded τ ≡ false
          by (over x) z = cc
          by (none c g) z = overloaded_none τ (λ x p q. g x p (omega (arith, is_compared)))

      pub judge_unsettled : is_none y.length ≡ true → shown_of (Err Unsettled) ≡ judged_of τ
      unfolding judged_of settled
      judge_unsettled h =
          simp (sym is_loose_lem ∙ no, found_none, lt-leb (busy_length τ) horizon (length_none τ y s h))

      -- the kind k of a table that is not loose
      judge_heavy : (k : ℕ) → heavy_kind τ ≡ k → is_none y.length ≡ false → admitted k τ ≡ judged_of τ
      unfolding judged_of settled
      judge_heavy k q h =
          simp (sym is_loose_lem ∙ no, found_none, le-leb (busy_length τ) horizon (length_some τ y s h), q)

      pub judge_mixed : (n : ℕ) → n ≡ τ.rows → is_none y.length ≡ false → b.firm ≡ true
          → shown_of (Ok (record { kind = Mixed; rows = n; budgets = b.values })) ≡ judged_of τ
      judge_mixed n k h t = rw (k, is_values) (judge_heavy 3 (heavy_kind_lem true t) h)

      pub judge_tight : (n : ℕ) → n ≡ τ.rows → is_none y.length ≡ false → b.firm ≡ false
          → shown_of (Ok (record { kind = Tight; rows = n; budgets = b.values })) ≡ judged_of τ
      judge_tight n k h t = rw (k, is_values) (judge_heavy 2 (heavy_kind_lem false t) h)

pub ruleset judge_cases = (judge_loose, judge_overload, judge_unsettled, judge_mixed, judge_tight)

-- ---- and for any slice

module _ (l : List ℕ) (b : Bool) (e : b ≡ bad_length (length l)) where
  pub say_length : b ≡ true → shown_of (Err (Length (length l))) ≡ opinion_of l
  unfolding opinion_of
  say_length t = simp (sym e ∙ t)

  module _ (no : b ≡ false) where
    pub say_row : (i : ℕ) → FirstBroken (tasks_of l) (Some i) → shown_of (Err (Row i)) ≡ opinion_of l
    unfolding opinion_of
    say_row i f = simp (sym e ∙ no, lt-ltb (first_broken_lem (tasks_of l)) (tasks_of l).rows (omega (arith, f.0, f.1)), f.0)

    pub say_fit : (tasks_of l).rows ≡ first_broken_lem (tasks_of l) → Fit (tasks_of l)
    say_fit f = let g = length_fit l (sym e ∙ no) in fit_of (tasks_of l) g.0 g.1 (omega arith)

    pub say_judged : (a : Result Judgement Refusal) → (tasks_of l).rows ≡ first_broken_lem (tasks_of l) → shown_of a ≡ judged_of (tasks_of l) → shown_of a ≡ opinion_of l
    unfolding opinion_of
    say_judged a f j = simp (sym e ∙ no, le-ltb (first_broken_lem (tasks_of l)) (tasks_of l).rows (omega arith)) j
