-- More laws of specs/Uniform.antt: they rest on what a must-fail edit makes false. Assumes nothing.
use Prim.Native.Nat.{ℕ, ◌≤◌, ◌<◌}
use Rattle.std.specs.Prelude.{◌≡◌, true, eqb}
use Rattle.std.proofs.Math.Path.{sym, ap}
use Rattle.std.proofs.Common.{subst, ◌∙◌}
use mathlib.Core.List.{List}
use Rattle.std.proofs.Math.Logic.{dite}
use native.Mathlib.Omega.{arith}
use Rattle.std.proofs.Math.Decide.{dec_lt, ℕ_discrete}
use borrow.Author.Tests.{lt-ltb, le-ltb, eq-eqb, ne_eqb}
use Rattle.session.specs.declared.Session.{Session}
use Rattle.session.specs.Order.{candidates, position, candidate_at}
use Rattle.session.specs.Choose.{draw, contested, drawn, pick_of}
use Rattle.guarantee.specs.Draws.{draws, Numbered, row, last, chooses, UniformPick}
use Rattle.guarantee.specs.Exact.{numbering}
use Rattle.guarantee.specs.Uniform.{uniform, one_in_eq}

-- ---- the candidates

module _ (s : Session) (few : s.count ≤ 16) where
  -- no candidate has two numbers
  numbered_once : {j k c d : ℕ} → Numbered s j c → Numbered s k d → c ≡ d → j ≡ k
  numbered_once (row i u a p) (row r v b q) e = sym p ∙ ap (λ (x : ℕ). position s x) e ∙ q
  numbered_once (row i u a p) (last b f) e = absurd (omega arith)
  numbered_once (last b f) (row i u a p) e = absurd (omega arith)
  numbered_once (last a e) (last b f) q = e ∙ sym f

  module _ (con : contested s ≡ true) (k c : ℕ) (num : Numbered s k c) where
    number_of : (j : ℕ) → j < candidates s → eqb (candidate_at s j) c ≡ eqb j k
    number_of j h =
        let e = (numbering s).each j h in
        dite (ℕ_discrete j k)
        (λ q. eq-eqb (candidate_at s j) c ((numbering s).one (subst (λ (x : ℕ). Numbered s x (candidate_at s j)) q e) num) ∙ sym (eq-eqb j k q))
        (λ q. ne_eqb (candidate_at s j) c (λ z. q (numbered_once e num z)) ∙ sym (ne_eqb j k q))

    -- words choose c where they draw its number
    chooses_is : (l : List ℕ) → chooses s c l ≡ draws (candidates s) k l
    unfolding pick_of drawn
    chooses_is l =
        dite (dec_lt (draw l (candidates s)) (candidates s))
        (λ h. simp (con, lt-ltb (draw l (candidates s)) (candidates s) h, number_of (draw l (candidates s)) h))
        (λ h.
        let off = ne_eqb (draw l (candidates s)) k (λ e. omega (arith, (numbering s).most num)) in
        simp (con, le-ltb (draw l (candidates s)) (candidates s) (omega arith), off))

pub uniform_pick : UniformPick
uniform_pick s few con k c num =
    one_in_eq (candidates s) (chooses s c) (draws (candidates s) k) (chooses_is s few con k c num)
    ((uniform (candidates s)).each k ((numbering s).most num))
