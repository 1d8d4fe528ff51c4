-- The code that writes what is printed of an opinion. Assumes nothing.
use Rattle.std.specs.Prelude.{ℕ, ◌+◌, ◌*◌, ◌≤◌, ◌<◌, ◌≡◌, refl, true, false, Result, Ok, Err, List, [], ◌∷◌, ◌++◌, ℤ, pos, negsuc, nat_abs, length, get_or, take}
use Rattle.std.proofs.Math.Path.{sym}
use Rattle.std.proofs.Common.{ap, ◌∙◌, true≢false, append-nil, arith, eq-eqb, ne_eqb, length-take-le}
use Rattle.std.proofs.lemmas.Bool.{false≢true}
use Rattle.std.proofs.lemmas.List.{get_or-take}
use Rattle.std.specs.Int.Signed.{lt_z}
use Rattle.bounded.specs.Signed.{negative, negative_lt}
use Rattle.decimal.specs.Decimal.{decimal}
use Rattle.decimal.specs.Buffer.{Wrote, wrote_more, wrote_within}
use Rattle.decimal.specs.Joined.{Joined, joined_start, joined_room, joined_next, joined_all}
use Rattle.lines.specs.Text.{head_text, line_text}
use Rattle.table.specs.declared.Numbers.{Numbers}
use Rattle.table.specs.declared.Judgement.{Judgement}
use Rattle.table.specs.declared.Refusal.{Refusal}
use Rattle.table.specs.Verdict.{Opinion}
use Rattle.table.specs.Opinion.{shown_of, Shows, shows_of, refusal_some}
use Rattle.report.specs.Text.{signed_text, budget_text, budgets_text, opinion_text}

-- ---- `put_signed`; w is what the machine reads back of v

signed_minus : (v : ℤ) → negative v ≡ true → signed_text v ≡ 45 ∷ decimal (nat_abs v)
signed_minus (pos n) e = absurd (false≢true e)
signed_minus (negsuc n) e = refl

signed_plain : (v : ℤ) → negative v ≡ false → signed_text v ≡ decimal (nat_abs v)
signed_plain (pos n) e = refl
signed_plain (negsuc n) e = absurd (true≢false e)

module _ (v w : ℤ) (n : ℕ) (d : List ℕ) (at : ℕ) (r : w ≡ v) (m : n ≡ nat_abs w) where
  pub signed_below : (e f : List ℕ) (p q : ℕ) → at + 22 ≤ length d → lt_z w (pos 0) ≡ true → Wrote 1 (45 ∷ []) d e at p → Wrote 21 (decimal n ++ 10 ∷ []) e f p q
      → Wrote 22 (signed_text v ++ 10 ∷ []) d f at q
  signed_below e f p q l t x y =
      rw (signed_minus v (ap negative (sym r) ∙ sym (negative_lt w) ∙ t), ← r, ← m)
      (wrote_more 1 21 (45 ∷ []) (decimal n ++ 10 ∷ []) d e f at p q (omega arith) x y)

  pub signed_above : (e : List ℕ) (p : ℕ) → lt_z w (pos 0) ≡ false → Wrote 21 (decimal n ++ 10 ∷ []) d e at p → Wrote 22 (signed_text v ++ 10 ∷ []) d e at p
  signed_above e p t x =
      rw (signed_plain v (ap negative (sym r) ∙ sym (negative_lt w) ∙ t), ← r, ← m) (wrote_within 21 22 (decimal n ++ 10 ∷ []) d e at p (omega arith) x)

pub ruleset signed_cases = (signed_below, signed_above)

-- ---- `put_budget`

pub budget_is : (i : ℕ) (v w : ℤ) (d e f : List ℕ) (at p q : ℕ) → at + 87 ≤ length d → w ≡ v → Wrote 65 (head_text 0 66 0 i) d e at p
    → Wrote 22 (signed_text w ++ 10 ∷ []) e f p q → Wrote 87 (budget_text i v) d f at q
budget_is i v w d e f at p q l r x y =
    rw (← r) (wrote_more 65 22 (head_text 0 66 0 i) (signed_text w ++ 10 ∷ []) d e f at p q (omega arith) x y)

-- ---- `put_budgets`

-- the line of row i
abbrev pub budget_at : List ℤ → ℕ → List ℕ
budget_at v i = budget_text i (get_or v i (pos 0))

module _ (v : List ℤ) (rows : ℕ) (d : List ℕ) (at : ℕ) where
  pub budgets_start : rows ≤ 16 → at + 1392 ≤ length d → Joined (budget_at v) 87 rows d at 0 d at
  budgets_start few room = joined_start (budget_at v) 87 rows d at (omega arith)

  -- the code goes over the first `rows` of the values
  module _ (few : rows ≤ 16) (size : length v ≡ 16) (i : ℕ) (e : List ℕ) (p : ℕ) (x : Joined (budget_at v) 87 rows d at i e p) where
    taken : length (take rows v) ≡ rows
    taken = length-take-le rows v (omega arith)

    pub budgets_room : i < length (take rows v) → p + 87 ≤ length e
    budgets_room h = joined_room (budget_at v) 87 rows d at i e p x (omega (arith, taken))

    pub budgets_next : (w : ℤ) (g : List ℕ) (q : ℕ) → i < length (take rows v) → w ≡ get_or (take rows v) i (pos 0) → Wrote 87 (budget_text i w) e g p q
        → Joined (budget_at v) 87 rows d at (i + 1) g q
    budgets_next w g q h is y =
        let l : i < rows = omega (arith, taken) in
        joined_next (budget_at v) 87 rows d at i e p x (budget_text i w) g q l y
        (ap (budget_text i) (is ∙ get_or-take rows v i (pos 0) l))

    pub budgets_end : length (take rows v) ≤ i → Wrote (87 * rows) (budgets_text v rows) d e at p
    unfolding budgets_text
    budgets_end h = joined_all (budget_at v) 87 rows d at i e p x (omega (arith, taken))

pub ruleset budgets_laws = (budgets_start, budgets_room, budgets_next, budgets_end)

-- ---- `put_opinion`

-- what is printed of the opinion o, on a table of so many rows, was written: the line `M`, and the lines `B` if it is admitted
pub record Reported (o : Opinion) (rows : ℕ) (before after : List ℕ) (at r : ℕ) : Type 0 where
  pub wrote : Wrote 1478 (opinion_text o) before after at r
  pub first : length (line_text 0 77 o.number o.first o.second) ≤ 86
  pub rest : o.number ≡ 0 → length (budgets_text o.budgets rows) ≤ 87 * rows

module _ (a : Result Judgement Refusal) (n : Numbers) (d e : List ℕ) (at p : ℕ) (g : Shows a n)
    (x : Wrote 86 (line_text 0 77 n.number n.first n.second) d e at p) where
  pub opinion_yes : (rows : ℕ) (f : List ℕ) (q : ℕ) (j : Judgement) → a ≡ Ok j → rows ≤ 16 → at + 1478 ≤ length d
      → ((shown_of a).number ≡ 0 → (shown_of a).second ≡ rows) → Wrote (87 * rows) (budgets_text j.budgets rows) e f p q → Reported (shown_of a) rows d f at q
  unfolding opinion_text
  opinion_yes rows f q j is few l k y =
      let z : (shown_of a).number ≡ 0 = ap (λ (v : Result Judgement Refusal). (shown_of v).number) is in
      let second : n.second ≡ rows = g.second ∙ k z in
      let values : (shown_of a).budgets ≡ j.budgets = ap (λ (v : Result Judgement Refusal). (shown_of v).budgets) is in
      rw (shows_of a n g) record {
        wrote =
            simp (eq-eqb n.number 0 (g.number ∙ z))
            (wrote_within (86 + 87 * rows) 1478 _ d f at q (omega arith)
            (wrote_more 86 (87 * rows) _ _ d e f at p q (omega (arith, x.short)) x (rw (second, values) y)));
        first = x.short;
        rest = λ _. rw values y.short;
      }

  pub opinion_not : (rows : ℕ) (r : Refusal) → a ≡ Err r → Reported (shown_of a) rows d e at p
  unfolding opinion_text
  opinion_not rows r is =
      let ne : n.number ≡ 0 → ⊥ =
      λ z. refusal_some r (sym (ap (λ (v : Result Judgement Refusal). (shown_of v).number) is) ∙ sym g.number ∙ z) in
      rw (shows_of a n g) record {
        wrote = simp (ne_eqb n.number 0 ne, append-nil) (wrote_within 86 1478 _ d e at p (omega arith) x);
        first = x.short;
        rest = λ z. absurd (ne z);
      }

pub ruleset opinion_cases = (opinion_yes, opinion_not)
