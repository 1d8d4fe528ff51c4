-- D − V of each row, as the code computes it. Assumes nothing.
use Rattle.std.specs.Prelude.{ℕ, ◌+◌, ◌≤◌, ◌<◌, ◌≡◌, refl, List, length, get_or, set, replicate}
use Rattle.std.proofs.Common.{◌∙◌, arith, get_or-set_other}
use Rattle.std.proofs.Math.Logic.{dite}
use Rattle.std.proofs.Math.Decide.{ℕ_discrete}
use Rattle.std.proofs.Math.ListN.{length-set}
use Rattle.std.proofs.Math.Seq.{get_or-set_same}
use Rattle.bounded.specs.Within.{Within}
use Rattle.edf.specs.Demand.{TaskSet, interference}
use Rattle.edf.specs.Response.{response_of}
use Rattle.table.specs.declared.rows.Task.{Task}
use Rattle.table.specs.Rows.{FitRow}

-- the first n rows have it in their places
pub record ResponsesTo (τ : TaskSet) (n : ℕ) (r : List ℕ) : Type 0 where
  pub places : length r ≡ 16
  pub each : (i : ℕ) → i < n → Within 16000001000000 (response_of τ i) (get_or r i 0)

-- all rows have
abbrev pub Responses : TaskSet → List ℕ → Type 0
Responses τ r = ResponsesTo τ τ.rows r

-- ---- `responses`

pub responses_start : (τ : TaskSet) → ResponsesTo τ 0 (replicate 16 0)
responses_start τ = record { places = refl; each = λ i h. absurd (omega arith) }

module _ (τ : TaskSet) (rows i : ℕ) (r : List ℕ) (is : rows ≡ τ.rows) (now : ResponsesTo τ i r) where
  pub responses_fits : (k : Task) (x n : ℕ) → FitRow τ i k → Within 16000000000000 (interference τ i k.deadline) x → 16000001000000 < n → k.run + x < n
  responses_fits k x n f w h = omega (arith, w.small, f.row.run, f.rule.fits, f.rule.apart, f.rule.limit)

  pub responses_next : (k : Task) (x : ℕ) → i < rows → τ.rows ≤ 16 → FitRow τ i k → Within 16000000000000 (interference τ i k.deadline) x
      → ResponsesTo τ (i + 1) (set r i (k.run + x))
  unfolding response_of
  responses_next k x h few f w = record {
    places = length-set r i (k.run + x) ∙ now.places;
    each = λ j l.
        dite (ℕ_discrete j i)
        (λ e.
        rw (e, get_or-set_same r i (k.run + x) 0 (omega (arith, now.places)))
        record { is = rw (w.is, f.row.run, f.row.deadline); small = omega (arith, w.small, f.row.run, f.rule.fits, f.rule.apart, f.rule.limit) })
        (λ ne. rw (get_or-set_other r i j (k.run + x) 0 ne) (now.each j (omega arith)));
  }

  pub responses_done : rows ≤ i → Responses τ r
  responses_done h = record { places = now.places; each = λ j l. now.each j (omega arith) }

pub ruleset responses_laws = (responses_start, responses_fits, responses_next, responses_done)
