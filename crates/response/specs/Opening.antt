-- What is printed of the table besides the opinion. Assumes nothing.
use Rattle.std.specs.Prelude.{ℕ, ◌<◌, ◌≡◌, ◌≢◌, Result, Ok, Err, List}
use Rattle.std.proofs.Math.Path.{sym}
use Rattle.std.proofs.Common.{ap, ◌∙◌, arith}
use borrow.Author.Tests.{eq-eqb, ne_eqb}
use Rattle.decimal.specs.Buffer.{Wrote, wrote_none, wrote_within}
use Rattle.edf.specs.Demand.{demand}
use Rattle.table.specs.declared.Judgement.{Judgement}
use Rattle.table.specs.declared.Refusal.{Refusal}
use Rattle.table.specs.declared.Refusal.TheVariants.{Length, Row, Overload, Unsettled}
use Rattle.table.specs.Rows.{tasks_of, Fit}
use Rattle.table.specs.Verdict.{opinion_of}
use Rattle.table.specs.Opinion.{shown_of, Says}
use Rattle.table.proofs.TheoremsLaws.{opinion_fit, refused_fit, first_overload_lem}
use Rattle.planning.specs.Planning.{costs_text, cuts_text}
use Rattle.response.specs.Plan.{besides_text}

module _ (l : List ℕ) (v : Result Judgement Refusal) (h : Says v (opinion_of l)) where
  -- an admitted table
  module _ (j : Judgement) (is : v ≡ Ok j) where
    admitted_number : (opinion_of l).number ≡ 0
    admitted_number = sym h.number ∙ ap (λ (w : Result Judgement Refusal). (shown_of w).number) is

    pub costs_fit : Fit (tasks_of l)
    costs_fit = opinion_fit l admitted_number

    pub costs_put : (d e : List ℕ) (at p : ℕ) → Wrote 27392 (costs_text (tasks_of l)) d e at p → Wrote 27392 (besides_text l) d e at p
    unfolding besides_text
    costs_put d e at p w = simp (eq-eqb (opinion_of l).number 0 admitted_number) w

  module _ (r : Refusal) (is : v ≡ Err r) where
    -- one that is overloaded at t, by its demand there
    module _ (t demanded : ℕ) (over : r ≡ Overload t demanded) where
      says_over : Says (Err (Overload t demanded)) (opinion_of l)
      says_over = rw (is ∙ ap Err over) at h

      pub cuts_fit : Fit (tasks_of l)
      cuts_fit = refused_fit l (sym says_over.number)

      pub cuts_over : t < demanded
      cuts_over =
          let o = first_overload_lem l (sym says_over.number) in
          omega (arith, o.0, o.1, says_over.first, says_over.second)

      pub cuts_demand : demanded ≡ demand (tasks_of l) t
      cuts_demand = says_over.second ∙ (first_overload_lem l (sym says_over.number)).1 ∙ ap (demand (tasks_of l)) (sym says_over.first)

      pub cuts_put : (d e : List ℕ) (at p : ℕ) → Wrote 1376 (cuts_text (tasks_of l) t) d e at p → Wrote 27392 (besides_text l) d e at p
      unfolding besides_text
      cuts_put d e at p w =
          let is3 : (opinion_of l).number ≡ 3 = sym says_over.number in
          simp (ne_eqb (opinion_of l).number 0 (λ q. omega arith), eq-eqb (opinion_of l).number 3 is3)
          (rw (← says_over.first) (wrote_within 1376 27392 _ d e at p (omega arith) w))

    -- any other refusal
    besides_not : (number : ℕ) → (shown_of (Err r)).number ≡ number → number ≢ 0 → number ≢ 3 → (d : List ℕ) (at : ℕ) → Wrote 27392 (besides_text l) d d at at
    unfolding besides_text
    besides_not number e a b d at =
        let says : Says (Err r) (opinion_of l) = rw is at h in
        let n : (opinion_of l).number ≡ number = sym says.number ∙ e in
        simp (ne_eqb (opinion_of l).number 0 (λ q. a (sym n ∙ q)), ne_eqb (opinion_of l).number 3 (λ q. b (sym n ∙ q))) (wrote_none 27392 d at)

    number_in : (x : Refusal) → r ≡ x → (shown_of (Err r)).number ≡ (shown_of (Err x)).number
    number_in x e = ap (λ (y : Refusal). (shown_of (Err y)).number) e

    pub besides_length : (n : ℕ) (d : List ℕ) (at : ℕ) → r ≡ Length n → Wrote 27392 (besides_text l) d d at at
    besides_length n d at e = besides_not 1 (number_in (Length n) e) (λ z. omega arith) (λ z. omega arith) d at

    pub besides_row : (i : ℕ) (d : List ℕ) (at : ℕ) → r ≡ Row i → Wrote 27392 (besides_text l) d d at at
    besides_row i d at e = besides_not 2 (number_in (Row i) e) (λ z. omega arith) (λ z. omega arith) d at

    pub besides_unsettled : (d : List ℕ) (at : ℕ) → r ≡ Unsettled → Wrote 27392 (besides_text l) d d at at
    besides_unsettled d at e = besides_not 4 (number_in Unsettled e) (λ z. omega arith) (λ z. omega arith) d at

pub ruleset besides_cases = (costs_fit, costs_put, cuts_fit, cuts_over, cuts_demand, cuts_put, besides_length, besides_row, besides_unsettled)
