-- The proof of Statement.antt. Assumes nothing.
use Rattle.std.specs.Prelude.{ℕ, zero, suc, ◌≡◌, refl, true, false, List, get_or, replicate, Result, Ok, Err}
use Rattle.std.proofs.Common.{sym, ap, subst, ◌∙◌, true≢false, arith}
use Rattle.std.proofs.lemmas.List.{length-replicate}
use Rattle.bounded.specs.Tests.{both}
use Rattle.edf.specs.Demand.{TaskSet}
use Rattle.game.specs.Game.{opening, Forces}
use Rattle.game.specs.Statement.{ExactlyWhen}
use Rattle.game.proofs.TheoremsLaws.{forced_exactly}
use Rattle.table.specs.Rows.{tasks_of, fit_lawful}
use Rattle.table.specs.Verdict.{opinion_of}
use Rattle.table.proofs.TheoremsLaws.{admitted_fits, first_overload_lem}
use Rattle.gametree.specs.declared.board.Slot.{Slot}
use Rattle.gametree.specs.declared.Finding.{Finding}
use Rattle.gametree.specs.declared.Finding.TheVariants.{Forced, Held}
use Rattle.gametree.specs.declared.Refusal.{Refusal}
use Rattle.gametree.specs.declared.Refusal.TheVariants.{BrokenRules}
use Rattle.gametree.specs.Bounds.{Playing}
use Rattle.gametree.specs.Search.{forced_of}
use Rattle.gametree.specs.Entry.{playable_of, opening_of, search_of, playable_playing}
use Rattle.gametree.specs.Statement.{Says, Means, SearchExact, AdmittedHeld, RefusedForced}
use Rattle.gametree.specs.Decides.{position_of, Framed, position_ext, forced_is}

-- ---- the board before the first tick

abbrev no_slot : Slot
no_slot = record { next = 0; due = 0; left = 0 }

blank_slot : (k i : ℕ) → get_or (replicate k no_slot) i no_slot ≡ no_slot
blank_slot zero i = refl
blank_slot (suc k) zero = refl
blank_slot (suc k) (suc i) = blank_slot k i

opening_is : position_of opening_of ≡ opening
opening_is =
    position_ext _ _ refl (λ i. ap (λ (x : Slot). x.next) (blank_slot 3 i)) (λ i. ap (λ (x : Slot). x.due) (blank_slot 3 i))
    (λ i. ap (λ (x : Slot). x.left) (blank_slot 3 i))

opening_framed : (τ : TaskSet) → Framed τ opening_of
opening_framed τ = record { size = length-replicate {A = Slot} 3 no_slot; blank = λ i h. ap (λ (x : Slot). x.left) (blank_slot 3 i) }

-- ---- the three answers differ

abbrev tag : Result Finding Refusal → ℕ
tag (Ok Forced) = 0
tag (Ok Held) = 1
tag (Err x) = 2

unlike : {P : Type 0} (r f g : Result Finding Refusal) → r ≡ f → r ≡ g → (tag f ≡ tag g → ⊥) → P
unlike r f g e q n = absurd (n (ap tag (sym e ∙ q)))

-- ---- what each says and means

module _ (l : List ℕ) (n : ℕ) (r : Result Finding Refusal) where
  abbrev Exact : Type 0
  Exact = Says l n r × Means l n r

  exact_refused : playable_of l n ≡ false → r ≡ Err BrokenRules → Exact
  exact_refused e is = (
    record {
      refused = λ f. is;
      forced = λ t. absurd (true≢false (sym t ∙ e));
      held = λ t. absurd (true≢false (sym t ∙ e));
    },
    record {
      forces = λ z. unlike r (Err BrokenRules) (Ok Forced) is z (λ q. omega (arith, q));
      exceeds = λ z. unlike r (Err BrokenRules) (Ok Forced) is z (λ q. omega (arith, q));
      holds = λ z. unlike r (Err BrokenRules) (Ok Held) is z (λ q. omega (arith, q));
      within = λ z. unlike r (Err BrokenRules) (Ok Held) is z (λ q. omega (arith, q));
      exceeded = λ t. absurd (true≢false (sym t ∙ e));
      refuses = λ z. e;
    },
  )

  module _ (e : playable_of l n ≡ true) (game : ExactlyWhen (tasks_of l) n) where
    exact_forced : Forces (tasks_of l) n opening → r ≡ Ok Forced → Exact
    exact_forced won is = (
      record { refused = λ f. absurd (true≢false (sym e ∙ f)); forced = λ t w. is; held = λ t not-won. absurd (not-won won) },
      record {
        forces = λ z. won;
        exceeds = λ z. game.exceeds won;
        holds = λ z. unlike r (Ok Forced) (Ok Held) is z (λ q. omega (arith, q));
        within = λ z. unlike r (Ok Forced) (Ok Held) is z (λ q. omega (arith, q));
        exceeded = λ t x. is;
        refuses = λ z. unlike r (Ok Forced) (Err BrokenRules) is z (λ q. omega (arith, q));
      },
    )

    exact_held : (Forces (tasks_of l) n opening → ⊥) → r ≡ Ok Held → Exact
    exact_held not-won is = (
      record { refused = λ f. absurd (true≢false (sym e ∙ f)); forced = λ t won. absurd (not-won won); held = λ t w. is },
      record {
        forces = λ z. unlike r (Ok Held) (Ok Forced) is z (λ q. omega (arith, q));
        exceeds = λ z. unlike r (Ok Held) (Ok Forced) is z (λ q. omega (arith, q));
        holds = λ z. not-won;
        within = λ z x. not-won (game.forces x);
        exceeded = λ t x. absurd (not-won (game.forces x));
        refuses = λ z. unlike r (Ok Held) (Err BrokenRules) is z (λ q. omega (arith, q));
      },
    )

exact_played : (l : List ℕ) (n : ℕ) → playable_of l n ≡ true → Says l n (search_of l n) × Means l n (search_of l n)
unfolding search_of
exact_played l n e =
    let τ = tasks_of l in
    let g = playable_playing l n (playable_of l n) refl e in
    let ok = fit_lawful τ g.fit in
    let d = forced_is τ g.few n opening_of (opening_framed τ) in
    both (forced_of τ n opening_of)
    (λ t. exact_forced l n (search_of l n) e (forced_exactly τ ok n) (subst (Forces τ n) opening_is (d.holds t)) (simp (e, t)))
    (λ t. exact_held l n (search_of l n) e (forced_exactly τ ok n) (λ f. d.fails t (subst (Forces τ n) (sym opening_is) f)) (simp (e, t)))

pub search_exact : SearchExact
unfolding search_of
search_exact l n = both (playable_of l n) (λ e. exact_played l n e) (λ e. exact_refused l n (search_of l n) e (simp e))

pub admitted_held : AdmittedHeld
admitted_held l n e z =
    let ok = fit_lawful (tasks_of l) (playable_playing l n (playable_of l n) refl e).fit in
    (search_exact l n).0.held e
    (λ f. let x = (forced_exactly (tasks_of l) ok n).exceeds f in omega (arith, x.2, admitted_fits l z x.0))

pub refused_forced : RefusedForced
refused_forced l n e z h = (search_exact l n).1.exceeded e ((opinion_of l).first, h, (first_overload_lem l z).0)

-- for the code
pub answer_is : (l : List ℕ) (n : ℕ) (r : Result Finding Refusal) → r ≡ search_of l n → (r ≡ search_of l n) × Says l n r
answer_is l n r e = (e, subst (Says l n) (sym e) (search_exact l n).0)

-- for callers that have an answer: the table and n keep their rules
pub forced_playing : (l : List ℕ) (n : ℕ) → search_of l n ≡ Ok Forced → Playing (tasks_of l) 0 n
unfolding search_of
forced_playing l n w =
    both (playable_of l n) (λ e. playable_playing l n (playable_of l n) refl e)
    (λ e. unlike (search_of l n) (Err BrokenRules) (Ok Forced) (simp e) w (λ q. omega (arith, q)))
