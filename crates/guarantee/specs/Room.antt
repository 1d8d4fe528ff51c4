-- How long the chosen one may run at most (docs/SPECIFICATION.md §5.4, Span). Assumes nothing.
use Rattle.std.specs.Prelude.{ℕ, zero, suc, min, ◌≤◌, ◌<◌, ◌≡◌, refl, true, cond, ◌⊎◌, eqb}
use Rattle.std.proofs.Common.{sym, ◌∙◌, true≢false, inl, inr, ⊎_elim, arith, eq-eqb, ne_eqb}
use Rattle.std.proofs.Math.Logic.{dite}
use Rattle.std.proofs.Math.Decide.{dec_lt, ℕ_discrete}
use Rattle.bounded.specs.Tests.{both}
use Rattle.bounded.specs.Fold.{fold_to}
use Rattle.table.specs.Rows.{horizon}
use Rattle.session.specs.declared.Session.{Session}
use Rattle.session.specs.Reading.{idle, job_at, waits, ahead}
use Rattle.session.specs.Choose.{room}
use Rattle.guarantee.specs.KeepsPick.{May}

-- what room begins with: c's remaining ticks, and 1,000,000 for idle
abbrev pub most : Session → ℕ → ℕ
most s c = cond (eqb c idle) horizon (job_at s c).left

-- x is the lesser of a and the least budget of those of the first n jobs that lose budget while c runs
pub record Lesser (s : Session) (c a n x : ℕ) : Type 0 where
  pub most : x ≤ a
  pub each : (j : ℕ) → j < n → ahead s c j ≡ true → x ≤ (job_at s j).budget
  pub one : (x ≡ a) ⊎ ((j : ℕ) × (j < n) × (ahead s c j ≡ true) × (x ≡ (job_at s j).budget))

-- one job more
lesser_next : (s : Session) (c a n x : ℕ) → Lesser s c a n x → Lesser s c a (suc n) (cond (ahead s c n) (min x (job_at s n).budget) x)
lesser_next s c a n x r =
    both (ahead s c n)
    (λ e. simp e
    (record {
      most = omega (arith, r.most);
      each = λ j l b. dite (ℕ_discrete j n) (λ q. rw q (omega arith)) (λ ne. omega (arith, r.each j (omega arith) b));
      one = dite (dec_lt (job_at s n).budget x) (λ l. inr (n, omega arith, e, omega arith))
          (λ l. let m : min x (job_at s n).budget ≡ x = omega arith in rw m one_more);
    }))
    (λ e. simp e
    (record {
      most = r.most;
      each = λ j l b. dite (ℕ_discrete j n)
          (λ q. let d : ahead s c n ≡ true = rw q at b in absurd (true≢false (sym d ∙ e)))
          (λ ne. r.each j (omega arith) b);
      one = one_more;
    }))
  where
    one_more : (x ≡ a) ⊎ ((j : ℕ) × (j < suc n) × (ahead s c j ≡ true) × (x ≡ (job_at s j).budget))
    one_more = ⊎_elim (λ e. inl e) (λ t. inr (t.0, omega (arith, t.1), t.2, t.3)) r.one

lesser_to : (s : Session) (c a n : ℕ) → Lesser s c a n (fold_to (λ m j. cond (ahead s c j) (min m (job_at s j).budget) m) a n)
unfolding fold_to
lesser_to s c a zero = record { most = omega arith; each = λ j l. absurd (omega arith); one = inl refl }
lesser_to s c a (suc n) = lesser_next s c a n _ (lesser_to s c a n)

pub room_lesser : (s : Session) (c : ℕ) → Lesser s c (most s c) s.count (room s c)
unfolding room
room_lesser s c = lesser_to s c (most s c) s.count

-- ---- what may be chosen may run for a tick at least

lesser_some : (s : Session) (c a n x : ℕ) → Lesser s c a n x → 1 ≤ a
    → ((j : ℕ) → j < n → ahead s c j ≡ true → 1 ≤ (job_at s j).budget) → 1 ≤ x
lesser_some s c a n x r h k =
    ⊎_elim (λ e. omega arith) (λ t. omega (arith, t.3, k t.0 t.1 t.2)) r.one

pub may_room : (s : Session) → s.count ≤ 16 → (c : ℕ) → May s c 1 → 1 ≤ room s c
unfolding ahead waits
may_room s few c may =
    lesser_some s c (most s c) s.count (room s c) (room_lesser s c)
    (⊎_elim (λ e. simp (eq-eqb c idle e) (omega arith))
    (λ r. simp (ne_eqb c idle (λ e. omega (arith, r.known))) (omega (arith, r.within)))
    may.runs)
    may.affords
