-- Every candidate of a choice is equally likely, and every length of a span (docs/SPECIFICATION.md §5.4, Draw). Assumes
-- nothing.
-- ---- the limit, and the first word below it
use Prim.Native.Nat.{ℕ, zero, suc, ◌+◌, ◌-◌, ◌*◌, ◌/◌, ◌%◌, ◌^◌, ◌≤◌, ◌<◌}
use Rattle.std.specs.Prelude.{◌≡◌, refl, Bool, false, eqb, length}
use Rattle.std.proofs.Math.Path.{sym, ap}
use Rattle.std.proofs.Common.{◌∙◌, mod-eq_of_lt, mul-le-mul_right, le-div_iff_mul-le}
use mathlib.Core.List.{List, [], ◌∷◌, ◌++◌}
use Rattle.std.proofs.Math.Logic.{dite}
use Rattle.std.proofs.Math.Nat.{mul-add-mod_self_right, div-add-mod', pow-zero, pow-suc}
use native.Mathlib.Omega.{arith}
use Rattle.std.proofs.Math.Decide.{dec_lt, ℕ_discrete}
use Rattle.std.proofs.Math.Seq.{drop-append_seam}
use borrow.Author.Tests.{lt-ltb, le-ltb, eq-eqb, ne_eqb}
use Rattle.bounded.specs.Tests.{gate, gate_on, gate_off}
use Rattle.bounded.specs.Sum.{sum_to, sum_eq, sum_add, sum_mul, sum_const, sum_zero, sum_shift, sum_eq_at}
use Rattle.session.specs.declared.Session.{Session}
use Rattle.session.specs.Choose.{word_end, draw_limit, draw, draw_used, room, unopposed, length_drawn, span_of}
use Rattle.session.specs.Draw.{limit_le, draw_taken, draw_passed, used_taken, used_passed, word_low, word_high}
use Rattle.guarantee.specs.Draws.{Limit, AllPassed, Taken, lists_with, OneIn, draws, Uniform, lasts, UniformSpan}

pub draw_limit_lem : Limit
unfolding draw_limit
draw_limit_lem n =
    record {
      multiple = (word_end / n, refl);
      within = limit_le n;
      greatest = λ q h.
          dite (dec_lt 0 n)
          (λ l. mul-le-mul_right n ((le-div_iff_mul-le {k = n} {x = q} {y = word_end} l).1 h))
          (λ l. let e : n ≡ 0 = omega arith in rw e (omega arith));
    }

module _ (n : ℕ) where
  first_word : (p : List ℕ) (w : ℕ) (l : List ℕ) → AllPassed n p → w < draw_limit n
      → (draw (p ++ w ∷ l) n ≡ w % n) × (draw_used (p ++ w ∷ l) n ≡ length p + 1)
  first_word [] w l a h = (draw_taken n w l h, used_taken n w l h)
  first_word (v ∷ p) w l a h =
      let r = first_word p w l a.1 h in
      (draw_passed n v (p ++ w ∷ l) a.0 ∙ r.0, omega (arith, used_passed n v (p ++ w ∷ l) a.0, r.1))

  all_passed : (p : List ℕ) → AllPassed n p → (draw p n ≡ n) × (draw_used p n ≡ length p)
  unfolding draw draw_used
  all_passed [] a = (refl, refl)
  all_passed (v ∷ p) a =
      let r = all_passed p a.1 in
      (draw_passed n v p a.0 ∙ r.0, omega (arith, used_passed n v p a.0, r.1))

pub first_taken : Taken
first_taken n = record { word = first_word n; none = all_passed n }

-- ---- how many words draw each number

-- one of n numbers is k
one_of : (n k : ℕ) → k < n → sum_to (λ x. gate (eqb x k) 1) n ≡ 1
one_of n k h =
    omega (
      arith,
      sum_eq_at (λ x. gate (eqb x k) 1) (λ x. 0) n k h (λ x l ne. gate_off (eqb x k) 1 (ne_eqb x k ne)),
      sum_zero (λ x. 0) n (λ x l. refl),
      gate_on (eqb k k) 1 (eq-eqb k k refl),
    )

-- of q times n numbers, q have the remainder k
blocks : (n k q : ℕ) → k < n → sum_to (λ w. gate (eqb (w % n) k) 1) (q * n) ≡ q
unfolding sum_to
blocks n k zero h = let e : 0 * n ≡ 0 = omega arith in rw e
blocks n k (suc q) h =
    let e : suc q * n ≡ q * n + n = omega arith in
    let ih = blocks n k q h in
    let next = sum_eq (λ x. gate (eqb ((q * n + x) % n) k) 1) (λ x. gate (eqb x k) 1) n
    (λ x l. ap (λ (y : ℕ). gate (eqb y k) 1) (mul-add-mod_self_right q n x ∙ mod-eq_of_lt l)) in
    rw e (omega (arith, sum_shift (λ w. gate (eqb (w % n) k) 1) (q * n) n, one_of n k h))

sum_split : (f : ℕ → ℕ) (a b : ℕ) → a ≤ b → sum_to f b ≡ sum_to f a + sum_to (λ x. f (a + x)) (b - a)
sum_split f a b h = let e : a + (b - a) ≡ b = omega arith in ap (sum_to f) (sym e) ∙ sum_shift f a (b - a)

module _ (n : ℕ) where
  even_each : (k : ℕ) → k < n → sum_to (λ w. draws n k (w ∷ [])) word_end ≡ word_end / n
  unfolding draw_limit
  even_each k h =
      let f : ℕ → ℕ = λ w. draws n k (w ∷ []) in
      let a = sum_eq f (λ w. gate (eqb (w % n) k) 1) (draw_limit n) (λ w l. ap (λ (y : ℕ). gate (eqb y k) 1) (draw_taken n w [] l)) in
      let b = sum_zero (λ x. f (draw_limit n + x)) (word_end - draw_limit n)
      (λ x l. gate_off _ 1 (ne_eqb _ k (λ e. omega (arith, word_high n (draw_limit n + x) (omega arith))))) in
      omega (arith, sum_split f (draw_limit n) word_end (limit_le n), a, b, blocks n k (word_end / n) h)

  even_rest : sum_to (λ w. draws n n (w ∷ [])) word_end ≡ word_end % n
  unfolding draw_limit
  even_rest =
      let f : ℕ → ℕ = λ w. draws n n (w ∷ []) in
      let a = sum_zero f (draw_limit n) (λ w l. gate_off _ 1 (ne_eqb _ n (λ e. omega (arith, word_low n w l)))) in
      let b = sum_eq (λ x. f (draw_limit n + x)) (λ x. 1) (word_end - draw_limit n)
      (λ x l. gate_on _ 1 (eq-eqb _ n (word_high n (draw_limit n + x) (omega arith)))) in
      omega (
        arith,
        sum_split f (draw_limit n) word_end (limit_le n),
        a,
        b,
        sum_const 1 (word_end - draw_limit n),
        div-add-mod' word_end n,
      )

-- ---- how many lists of words draw each number

lists_eq : (x : ℕ) (f g : List ℕ → ℕ) → ((l : List ℕ) → f l ≡ g l) → lists_with x f ≡ lists_with x g
unfolding lists_with
lists_eq zero f g h = h []
lists_eq (suc x) f g h = sum_eq _ _ word_end (λ w u. lists_eq x (λ l. f (w ∷ l)) (λ l. g (w ∷ l)) (λ l. h (w ∷ l)))

lists_const : (x c : ℕ) → lists_with x (λ l. c) ≡ c * word_end ^ x
unfolding lists_with
lists_const zero c = omega arith
lists_const (suc x) c =
    sum_eq (λ w. lists_with x (λ l. c)) (λ w. c * word_end ^ x) word_end (λ w u. lists_const x c)
    ∙ sum_const (c * word_end ^ x) word_end ∙ rw (pow-suc word_end x) (omega arith)

module _ (n k : ℕ) (h : k < n) where
  -- a first word that is taken draws k or another number, whatever comes after it; one that is passed over leaves it to them
  lists_by : (x w : ℕ)
      → lists_with x (λ l. draws n k (w ∷ l)) ≡ lists_with x (draws n k) * draws n n (w ∷ []) + word_end ^ x * draws n k (w ∷ [])
  lists_by x w =
      dite (dec_lt w (draw_limit n))
      (λ t.
      let e = word_low n w t in
      let a = gate_off (eqb (draw (w ∷ []) n) n) 1 (ne_eqb _ n (λ q. omega arith)) in
      let c = lists_eq x (λ l. draws n k (w ∷ l)) (λ l. draws n k (w ∷ []))
      (λ l. ap (λ (y : ℕ). gate (eqb y k) 1) (draw_taken n w l t ∙ sym (draw_taken n w [] t))) in
      rw a (c ∙ lists_const x (draws n k (w ∷ [])) ∙ omega arith))
      (λ f.
      let e = word_high n w (omega arith) in
      let a = gate_on (eqb (draw (w ∷ []) n) n) 1 (eq-eqb _ n e) in
      let b = gate_off (eqb (draw (w ∷ []) n) k) 1 (ne_eqb _ k (λ q. omega arith)) in
      let c = lists_eq x (λ l. draws n k (w ∷ l)) (draws n k) (λ l. ap (λ (y : ℕ). gate (eqb y k) 1) (draw_passed n w l (omega arith))) in
      rw (a, b) (c ∙ omega arith))

  lists_next : (x : ℕ) → lists_with (suc x) (draws n k) ≡ lists_with x (draws n k) * (word_end % n) + word_end ^ x * (word_end / n)
  unfolding lists_with
  lists_next x =
      let f : ℕ → ℕ = λ w. draws n n (w ∷ []) in
      let g : ℕ → ℕ = λ w. draws n k (w ∷ []) in
      let y = lists_with x (draws n k) in
      sum_eq _ (λ w. y * f w + word_end ^ x * g w) word_end (λ w u. lists_by x w)
      ∙ sum_add (λ w. y * f w) (λ w. word_end ^ x * g w) word_end
      ∙ rw (sum_mul y f word_end, sum_mul (word_end ^ x) g word_end, even_rest n, even_each n k h)

  lists_all : (x : ℕ) → n * lists_with x (draws n k) + (word_end % n) ^ x ≡ word_end ^ x
  unfolding lists_with draw
  lists_all zero =
      let z = gate_off (eqb n k) 1 (ne_eqb n k (λ e. omega arith)) in rw (z, pow-zero (word_end % n)) (omega arith)
  lists_all (suc x) =
      let y = lists_with x (draws n k) in
      let r = word_end % n in
      let p = word_end ^ x in
      -- the last equation r times, and all words p times
      let a : n * y * r + r ^ x * r ≡ p * r = sym (omega arith) ∙ ap (λ (z : ℕ). z * r) (lists_all x) in
      let b : p * (word_end / n) * n + p * r ≡ p * word_end = sym (omega arith) ∙ ap (λ (z : ℕ). p * z) (div-add-mod' word_end n) in
      rw (lists_next x, pow-suc word_end x, pow-suc (word_end % n) x) (omega (arith, a, b))

pub uniform : Uniform
uniform n =
    record { each = λ k h. record { words = even_each n k h; lists = lists_all n k h }; rest = even_rest n }

pub one_in_eq : (n : ℕ) (f g : List ℕ → ℕ) → ((l : List ℕ) → f l ≡ g l) → OneIn n g → OneIn n f
one_in_eq n f g h o =
    record {
      words = sum_eq (λ w. f (w ∷ [])) (λ w. g (w ∷ [])) word_end (λ w l. h (w ∷ [])) ∙ o.words;
      lists = λ x. rw (lists_eq x f g h) (o.lists x);
    }

-- ---- the lengths of a span

module _ (s : Session) (p : List ℕ) (c x : ℕ) (o : unopposed s c ≡ false) (some : 1 ≤ x) (most : x ≤ room s c) where
  lasts_is : (l : List ℕ) → lasts s p c x l ≡ draws (room s c) (x - 1) l
  unfolding length_drawn span_of
  lasts_is l =
      let d = draw l (room s c) in
      rw (drop-append_seam p l)
      (dite (dec_lt d (room s c))
      (λ h. simp (o, lt-ltb d (room s c) h)
      (ap (λ (b : Bool). gate b 1)
      (dite (ℕ_discrete d (x - 1)) (λ q. eq-eqb (1 + d) x (omega arith) ∙ sym (eq-eqb d (x - 1) q))
      (λ q. ne_eqb (1 + d) x (λ z. q (omega arith)) ∙ sym (ne_eqb d (x - 1) q)))))
      (λ h. simp (o, le-ltb d (room s c) (omega arith), ne_eqb d (x - 1) (λ e. omega arith))))

pub uniform_span : UniformSpan
uniform_span s p c x o some most =
    one_in_eq (room s c) (lasts s p c x) (draws (room s c) (x - 1)) (lasts_is s p c x o some most)
    ((uniform (room s c)).each (x - 1) (omega arith))
