-- The code that says the next line. Assumes nothing.
-- ---- `ready_row`
use Rattle.std.specs.Prelude.{◌≡◌, ℕ, zero, suc, ◌+◌, ◌-◌, ◌<◌, ◌≤◌, min, Bool, true, false, nat_le, Option, Some, None}
use Rattle.std.proofs.Math.Path.{refl, sym, ap}
use Rattle.std.proofs.Common.{◌∙◌, add-one}
use native.Mathlib.Omega.{arith}
use borrow.Author.Tests.{le-leb, lt-leb, lt-ltb, le-ltb, ltb-true}
use Rattle.bounded.specs.Fold.{fold_to}
use Rattle.std.proofs.lemmas.Option.{none-some}
use Rattle.bounded.specs.Tests.{both}
use Rattle.bounded.specs.Within.{Within}
use Rattle.bounded.specs.Least.{Passed, passed_start, passed_next, first_found, first_none}
use Rattle.table.specs.Rows.{horizon}
use Rattle.lines.specs.declared.read.Call.TheVariants.{Arrive, Choose, Advance}
use Rattle.lines.specs.declared.read.Line.TheVariants.{Word, Call}
use Rattle.session.specs.declared.Session.{Session}
use Rattle.session.specs.Reading.{job_at}
use Rattle.workload.specs.Numbers.{next_of}
use Rattle.workload.specs.Trial.{ready_row_lem, ready, row_ready, until_next_lem, line_by_lem}

-- row i may arrive now
abbrev pub may_arrive : Session → ℕ → Bool
may_arrive s i = nat_le (job_at s i).next s.clock

row_some : (s : Session) → ready_row_lem s < s.count → row_ready s ≡ Some (ready_row_lem s)
unfolding row_ready ready
row_some s l = simp (lt-ltb (ready_row_lem s) s.count l)

row_none : (s : Session) → s.count ≤ ready_row_lem s → row_ready s ≡ None
unfolding row_ready ready
row_none s l = simp (le-ltb (ready_row_lem s) s.count l)

module _ (s : Session) where
  pub ready_start : Passed (may_arrive s) 0
  ready_start = passed_start (may_arrive s)

  module _ (i n : ℕ) (p : Passed (may_arrive s) i) where
    pub ready_next : s.clock < (job_at s i).next → Passed (may_arrive s) (i + 1)
    ready_next h = passed_next (may_arrive s) i false p (sym (lt-leb _ _ h)) refl

    none_yet : n ≤ i → n ≡ s.count → n ≡ ready_row_lem s
    unfolding ready_row_lem
    none_yet l e = first_none (may_arrive s) i n s.count p l e

    pub ready_found : i < n → n ≡ s.count → (job_at s i).next ≤ s.clock → Some i ≡ row_ready s
    unfolding ready_row_lem
    ready_found l e h =
        let f : i ≡ ready_row_lem s = first_found (may_arrive s) i n s.count true p l e (sym (le-leb _ _ h)) refl in
        ap Some f ∙ sym (row_some s (omega (arith, f)))

    pub ready_none : n ≤ i → n ≡ s.count → None ≡ row_ready s
    ready_none l e = let f = none_yet l e in sym (row_none s (omega (arith, f)))

-- ---- `until_next`

-- of the first n rows
unfoldable pub until_to : Session → ℕ → ℕ
until_to s n = fold_to (λ m i. min m ((job_at s i).next - s.clock)) horizon n

module _ (s : Session) where
  pub until_start : horizon ≡ until_to s 0
  unfolding until_to fold_to
  until_start = refl

  pub until_turn : (m d r i : ℕ) → m ≡ until_to s i → d ≡ (job_at s i).next - s.clock → r ≡ min m d → r ≡ until_to s (i + 1)
  unfolding until_to fold_to
  until_turn m d r i e f g = g ∙ rw (add-one, e, f)

  until_upto : (n : ℕ) → until_to s n ≤ horizon
  unfolding until_to fold_to
  until_upto zero = omega arith
  until_upto (suc n) = omega (arith, until_upto n)

  pub until_done : (m i n : ℕ) → m ≡ until_to s i → i ≤ n → n ≤ i → n ≡ s.count → Within horizon (until_next_lem s) m
  unfolding until_to until_next_lem
  until_done m i n e l h k =
      let j : i ≡ s.count = omega arith in
      record { is = e ∙ ap (until_to s) j; small = omega (arith, until_upto i) }

pub ruleset until_laws = (until_start, until_turn, until_done)

-- ---- `line_by`

row_in : Option ℕ → ℕ
row_in (Some i) = i
row_in None = 0

ready_is : (s : Session) → ready s ≡ true → row_ready s ≡ Some (ready_row_lem s)
unfolding row_ready
ready_is s t = simp t

ready_not : (s : Session) → ready s ≡ false → row_ready s ≡ None
unfolding row_ready
ready_not s t = simp t

module _ (s : Session) (number : ℕ) (given : Bool) (r : Option ℕ) (e : r ≡ row_ready s) where
  pub says_arrive : (row : ℕ) → r ≡ Some row → Call (Arrive row) ≡ line_by_lem s number given
  unfolding line_by_lem row_in
  says_arrive row f =
      both (ready s)
      (λ t. let g : row ≡ ready_row_lem s = ap row_in (sym f ∙ e ∙ ready_is s t) in ap (λ (x : ℕ). Call (Arrive x)) g ∙ sym (simp t))
      (λ t. absurd (none-some row (sym (ready_not s t) ∙ sym e ∙ f)))

  pub says_small : (row m : ℕ) → r ≡ Some row → s.count ≤ 16 → 16 < m → row < m
  unfolding row_in ready
  says_small row m f few h =
      both (ready s)
      (λ t. let g : row ≡ ready_row_lem s = ap row_in (sym f ∙ e ∙ ready_is s t) in omega (arith, ltb-true (ready_row_lem s) s.count t, g))
      (λ t. absurd (none-some row (sym (ready_not s t) ∙ sym e ∙ f)))

  module _ (l : r ≡ None) where
    none_ready : ready s ≡ false
    none_ready = both (ready s) (λ t. absurd (none-some (ready_row_lem s) (sym l ∙ e ∙ ready_is s t))) (λ t. t)

    pub says_advance : (u m : ℕ) → Within horizon (until_next_lem s) u → m ≡ min s.span u → 0 < s.span → Call (Advance m) ≡ line_by_lem s number given
    unfolding line_by_lem
    says_advance u m f g h = rw (g, f.is) (sym (simp (none_ready, lt-ltb 0 s.span h)))

    pub says_choose : s.span ≤ 0 → given ≡ true → Call Choose ≡ line_by_lem s number given
    unfolding line_by_lem
    says_choose h t = sym (simp (none_ready, le-ltb 0 s.span h, t))

    pub says_word : (w : ℕ) → s.span ≤ 0 → given ≡ false → w ≡ next_of number → Word w ≡ line_by_lem s number given
    unfolding line_by_lem
    says_word w h f g = rw g (sym (simp (none_ready, le-ltb 0 s.span h, f)))

pub ruleset line_cases = (says_arrive, says_small, says_advance, says_choose, says_word)
