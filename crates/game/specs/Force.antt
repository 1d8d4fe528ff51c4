-- Where the demand exceeds t, the line of releases to t wins whatever is played. Assumes nothing.
use Rattle.std.specs.Prelude.{ℕ, zero, suc, ◌+◌, ◌*◌, ◌/◌, ◌%◌, ◌≤◌, ◌<◌, ◌≡◌, refl, Bool, false, ◌⊎◌, ltb, eqb}
use Rattle.std.proofs.Common.{sym, ◌∙◌, true≢false, mul-le-mul_right, div-add-mod', arith}
use Rattle.std.proofs.Math.Bool.{true}
use Rattle.std.proofs.Math.Logic.{dite, inl, inr, ⊎_elim}
use Rattle.std.proofs.Math.Nat.{mul-add-mod_self_right}
use Rattle.std.proofs.Math.Decide.{dec_le, dec_lt, ℕ_discrete}
use borrow.Author.Tests.{lt-ltb, le-leb, ltb-true, eq-eqb, eqb-true}
use Rattle.bounded.specs.Tests.{both, and-true, and_both}
use Rattle.edf.specs.Demand.{TaskSet, Lawful}
use Rattle.edf.specs.State.{load, WellFormed}
use Rattle.edf.specs.Arrivals.{Tick, to, none}
use Rattle.game.specs.Game.{Position, Legal, released, played, Forces, Wins, line_to}
use Rattle.game.specs.Tick.{state_of, Past}

-- a line that wins whatever is played is a way to force it
pub wins_forces : (τ : TaskSet) (l : ℕ → ℕ → Bool) (n : ℕ) (p : Position) → Wins τ l n p → Forces τ n p
wins_forces τ l zero p w = w
wins_forces τ l (suc n) p w = (
  l p.clock,
  w.0,
  λ m may. ⊎_elim (λ a. inl a) (λ (v : Wins τ l n (played m (released τ (l p.clock) p))). inr (wins_forces τ l n _ v)) (w.1 m may),
)

-- ---- multiples of T

-- two of them lie T apart
multiples_apart : (T a c : ℕ) → a % T ≡ 0 → c % T ≡ 0 → a < c + T → a ≤ c
multiples_apart T a c e f h =
    dite (dec_le (a / T) (c / T))
    (λ q. omega (arith, div-add-mod' a T, div-add-mod' c T, mul-le-mul_right {m = a / T} {n = c / T} T q))
    (λ q. absurd (omega (arith, div-add-mod' a T, div-add-mod' c T, mul-le-mul_right {m = suc (c / T)} {n = a / T} T (omega arith))))

multiple_next : (T c : ℕ) → c % T ≡ 0 → (c + T) % T ≡ 0
multiple_next T c e =
    let s : c + T ≡ 1 * T + c = omega arith in
    rw s (mul-add-mod_self_right 1 T c ∙ e)

-- ---- positions of the line to t

-- a row's earliest next release is a multiple of T, and less than T ahead; it is not past, unless it would be due after t
pub record OnLine (τ : TaskSet) (t : ℕ) (p : Position) (i : ℕ) : Type 0 where
  pub multiple : p.next i % τ.T i ≡ 0
  pub near : p.next i < p.clock + τ.T i
  pub kept : (p.clock ≤ p.next i) ⊎ (t < p.next i + τ.D i)

abbrev pub AllOnLine : TaskSet → ℕ → Position → Type 0
AllOnLine τ t p = (i : ℕ) → i < τ.rows → OnLine τ t p i

-- the position after its releases now
abbrev pub line_moved : TaskSet → ℕ → Position → Position
line_moved τ t p = released τ (line_to τ t p.clock) p

module _ (τ : TaskSet) (ok : Lawful τ) (t : ℕ) (p : Position) (on : AllOnLine τ t p) where
  pub line_legal : Legal τ (line_to τ t p.clock) p
  unfolding line_to
  line_legal i e =
      let a = and-true (ltb i τ.rows) _ e in
      let b = and-true (eqb (p.clock % τ.T i) 0) _ a.1 in
      let l = ltb-true i τ.rows a.0 in
      let o = on i l in
      (l, multiples_apart (τ.T i) (p.next i) p.clock o.multiple (eqb-true (p.clock % τ.T i) 0 b.0) o.near)

  -- a row that the line leaves out now, though it may be released, would be due after t
  left_out : (i : ℕ) → i < τ.rows → line_to τ t p.clock i ≡ false → (p.clock < p.next i) ⊎ (t < p.next i + τ.D i)
  unfolding line_to
  left_out i l e =
      let o = on i l in
      ⊎_elim
      (λ (q : p.clock ≤ p.next i).
      dite (ℕ_discrete p.clock (p.next i))
      (λ same. dite (dec_le (p.clock + τ.D i) t)
      (λ h. absurd (true≢false (sym (taken (rw same o.multiple) h) ∙ e)))
      (λ h. inr (omega arith)))
      (λ ne. inl (omega arith)))
      (λ q. inr q)
      o.kept
    where
      taken : p.clock % τ.T i ≡ 0 → p.clock + τ.D i ≤ t → line_to τ t p.clock i ≡ true
      taken z h = unfold line_to in and_both _ _ (lt-ltb i τ.rows l) (and_both _ _ (eq-eqb _ 0 z) (le-leb _ t h))

  pub line_past : (i : ℕ) → i < τ.rows → Past τ (line_moved τ t p) t i
  line_past i l =
      let u = ok i l in
      both (line_to τ t p.clock i)
      (λ e. inl (let n : (line_moved τ t p).next i ≡ p.clock + τ.T i = simp e in omega (arith, n)))
      (λ e.
      let n : (line_moved τ t p).next i ≡ p.next i = simp e in
      let o = on i l in
      ⊎_elim (λ q. inl (omega (arith, n)))
      (λ (q : t < p.next i + τ.D i). dite (dec_lt p.clock (p.next i)) (λ h. inl (omega (arith, n))) (λ h. inr (omega arith)))
      (left_out i l e))

  -- a tick later
  on_next : (q : Position) → q.clock ≡ p.clock + 1 → (i : ℕ) → i < τ.rows → q.next i ≡ (line_moved τ t p).next i → OnLine τ t q i
  unfolding line_to
  on_next q c i l same = both (line_to τ t p.clock i) (λ e. new e) (λ e. old e)
    where
      new : line_to τ t p.clock i ≡ true → OnLine τ t q i
      new e =
          let u = ok i l in
          let n : q.next i ≡ p.clock + τ.T i = same ∙ simp e in
          let a = and-true (ltb i τ.rows) _ e in
          let b = and-true (eqb (p.clock % τ.T i) 0) _ a.1 in
          record {
            multiple = rw n (multiple_next (τ.T i) p.clock (eqb-true (p.clock % τ.T i) 0 b.0));
            near = omega (arith, n, c);
            kept = inl (omega (arith, n, c));
          }

      old : line_to τ t p.clock i ≡ false → OnLine τ t q i
      old e =
          let o = on i l in
          let n : q.next i ≡ p.next i = same ∙ simp e in
          record {
            multiple = rw n o.multiple;
            near = omega (arith, n, c, o.near);
            kept = ⊎_elim (λ h. inl (omega (arith, n, c))) (λ h. inr (omega (arith, n))) (left_out i l e);
          }

  pub line_next : (m : Tick) → AllOnLine τ t (played m (line_moved τ t p))
  line_next (to k) i l = on_next (played (to k) (line_moved τ t p)) refl i l refl
  line_next none i l = on_next (played none (line_moved τ t p)) refl i l refl

-- what holds along the line
pub record Excess (τ : TaskSet) (t : ℕ) (p : Position) : Type 0 where
  pub formed : WellFormed τ (state_of p)
  pub on : AllOnLine τ t p
  pub before : p.clock < t
  pub over : t < p.clock + load τ (state_of p) t
