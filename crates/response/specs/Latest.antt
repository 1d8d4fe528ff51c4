-- The latest entry of a row, by the row's job. Assumes nothing.
use Rattle.std.specs.Prelude.{ℕ, ◌+◌, ◌≤◌, ◌≡◌, Bool, true, false, eqb, length}
use Rattle.std.proofs.Math.Path.{refl}
use Rattle.std.proofs.Common.{ap, arith, eq-eqb, ne_eqb}
use mathlib.Core.List.{List, [], ◌∷◌}
use Rattle.bounded.specs.Tests.{both, gate}
use Rattle.edf.specs.Demand.{TaskSet}
use Rattle.session.specs.declared.Job.{Job}
use Rattle.guarantee.specs.Ledger.{none, Entry, Ledger, on_latest}
use Rattle.guarantee.specs.History.{due_of, unended, overtakes, passed_over, counted}
use Rattle.guarantee.specs.TiesRow.{over, waiting, Follows, nothing, other, latest, InRow}
use Rattle.guarantee.specs.Responds.{stands_open}
use Rattle.response.specs.Jobs.{latest_of}

-- an entry that has no end is passed over where its deadline is overtaken
passed_open : (τ : TaskSet) (g : Ledger) (e : Entry) (d : ℕ) → e.end ≡ none → due_of τ e ≡ d → passed_over τ g e ≡ overtakes τ g d
unfolding passed_over
passed_open τ g e d p q = rw (p, q)

module _ (τ : TaskSet) (i : ℕ) where
  -- where the row's job waits, it is its entry's
  pub latest_waits : {j : Job} {es : List Entry} (cs : List ℕ) → length cs ≡ length es → 1 ≤ j.left → Follows τ i j es
      → ((latest_of i es cs).waiting ≡ true) × ((latest_of i es cs).arrival + τ.D i ≡ j.due)
  unfolding latest_of
  latest_waits cs p some (nothing z) = absurd (omega arith)
  latest_waits [] p some (other ne r) = absurd (omega arith)
  latest_waits [] p some (latest q st r) = absurd (omega arith)
  latest_waits (c ∷ cs) p some (other {e = e} ne r) = simp (ne_eqb e.row i ne) (latest_waits cs (omega arith) some r)
  latest_waits {j} (c ∷ cs) p some (latest {e = e} q st r) =
      let o = stands_open τ i j e q some st in
      simp (eq-eqb e.row i q) (ap unended o.0, (rw q at o.1))

  -- and where none waits, no entry does
  pub latest_none : {j : Job} {es : List Entry} (cs : List ℕ) → j.left ≡ 0 → Follows τ i j es → (latest_of i es cs).waiting ≡ false
  unfolding latest_of
  latest_none cs z (nothing y) = refl
  latest_none [] z (other ne r) = refl
  latest_none [] z (latest q st r) = refl
  latest_none (c ∷ cs) z (other {e = e} ne r) = simp (ne_eqb e.row i ne) (latest_none cs z r)
  latest_none (c ∷ cs) z (latest {e = e} q (over x y p k) r) = simp (eq-eqb e.row i q) (ap unended p)
  latest_none (c ∷ cs) z (latest q (waiting b some p a k) r) = absurd (omega arith)

  -- n ticks count for the row's waiting job where its deadline is overtaken
  pub latest_counted : {j : Job} {es : List Entry} (g : Ledger) (n : ℕ) (cs : List ℕ) → length cs ≡ length es → 1 ≤ j.left → Follows τ i j es
      → (latest_of i es (counted τ g n es cs)).inversions ≡ (latest_of i es cs).inversions + gate (overtakes τ g j.due) n
  unfolding latest_of counted
  latest_counted g n cs p some (nothing z) = absurd (omega arith)
  latest_counted g n [] p some (other ne r) = absurd (omega arith)
  latest_counted g n [] p some (latest q st r) = absurd (omega arith)
  latest_counted g n (c ∷ cs) p some (other {e = e} ne r) = simp (ne_eqb e.row i ne) (latest_counted g n cs (omega arith) some r)
  latest_counted {j} g n (c ∷ cs) p some (latest {e = e} q st r) =
      let o = stands_open τ i j e q some st in
      simp (eq-eqb e.row i q) (ap (λ (b : Bool). c + gate b n) (passed_open τ g e j.due o.0 o.1))

-- ticks leave one count to each entry
pub counted_paired : (τ : TaskSet) (g : Ledger) (n : ℕ) (es : List Entry) (cs : List ℕ) → length cs ≡ length es → length (counted τ g n es cs) ≡ length es
unfolding counted
counted_paired τ g n [] cs p = refl
counted_paired τ g n (e ∷ es) [] p = absurd (omega arith)
counted_paired τ g n (e ∷ es) (c ∷ cs) p = omega (arith, counted_paired τ g n es cs (omega arith))

-- an entry's change leaves it in its row, with its arrival
module _ (i k : ℕ) (f : Entry → Entry) (keeps : InRow f) (arrives : (e : Entry) → (f e).arrival ≡ e.arrival) where
  pub latest_changed : (es : List Entry) (cs : List ℕ)
      → ((latest_of i (on_latest k f es) cs).arrival ≡ (latest_of i es cs).arrival) × ((latest_of i (on_latest k f es) cs).inversions ≡ (latest_of i es cs).inversions)
  unfolding latest_of on_latest
  latest_changed [] cs = (refl, refl)
  latest_changed (e ∷ es) [] = both (eqb e.row k) (λ t. simp t (refl, refl)) (λ t. simp t (refl, refl))
  latest_changed (e ∷ es) (c ∷ cs) =
      both (eqb e.row k)
      (λ t. simp t (rw (keeps e) (both (eqb e.row i) (λ u. simp u (arrives e, refl)) (λ u. simp u (refl, refl)))))
      (λ t. simp t (both (eqb e.row i) (λ u. simp u (refl, refl)) (λ u. simp u (latest_changed es cs))))
