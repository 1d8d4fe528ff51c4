-- The search's answer on any slice and any number (docs/SPECIFICATION.md §13.2). Assumes nothing.
use Rattle.std.specs.Prelude.{ℕ, ◌%◌, ◌≡◌, Bool, true, false, not, ◌&&◌, cond, List, leb, eqb, length, replicate, Result, Ok, Err}
use Rattle.std.proofs.Math.Path.{sym}
use Rattle.std.proofs.Common.{ap, ◌∙◌}
use borrow.Author.Tests.{leb-true, eqb-true, eqb-false, not-true}
use Rattle.bounded.specs.Tests.{and-true}
use Rattle.table.specs.declared.Numbers.{Numbers}
use Rattle.table.specs.Rows.{tasks_of, first_broken_lem}
use Rattle.gametree.specs.declared.board.Board.{Board}
use Rattle.gametree.specs.declared.Finding.{Finding}
use Rattle.gametree.specs.declared.Finding.TheVariants.{Forced, Held}
use Rattle.gametree.specs.declared.Refusal.{Refusal}
use Rattle.gametree.specs.declared.Refusal.TheVariants.{BrokenRules}
use Rattle.gametree.specs.Bounds.{Playing, playing_start}
use Rattle.gametree.specs.Search.{forced_of}
use Rattle.gametree.specs.Code.{round_of, forced_round}

-- the slice's length is a multiple of 3, each row keeps its rule, and rows and n are 1 to 3 and 1 to 12
unfoldable pub playable_of : List ℕ → ℕ → Bool
playable_of l n =
    not (eqb (length l) 0)
    && (leb (length l) 9 && (eqb (length l % 3) 0 && (not (eqb n 0) && (leb n 12 && leb (tasks_of l).rows (first_broken_lem (tasks_of l))))))

-- before the first tick
abbrev pub opening_of : Board
opening_of = record { clock = 0; slots = replicate 3 (record { next = 0; due = 0; left = 0 }) }

-- 16 where it is not so
unfoldable pub search_of : List ℕ → ℕ → Result Finding Refusal
search_of l n = cond (playable_of l n) (Ok (cond (forced_of (tasks_of l) n opening_of) Forced Held)) (Err BrokenRules)

-- an answer in numbers: 16 where the search is refused, and else 1 or 0
unfoldable pub numbers_of : Result Finding Refusal → Numbers
numbers_of (Ok Forced) = record { number = 0; first = 1; second = 0 }
numbers_of (Ok Held) = record { number = 0; first = 0; second = 0 }
numbers_of (Err BrokenRules) = record { number = 16; first = 0; second = 0 }

-- ---- the code

-- what the tests say
pub playable_playing : (l : List ℕ) (n : ℕ) (b : Bool) → b ≡ playable_of l n → b ≡ true → Playing (tasks_of l) 0 n
unfolding playable_of
playable_playing l n b e t =
    let rows = leb (tasks_of l).rows (first_broken_lem (tasks_of l)) in
    let far = leb n 12 && rows in
    let some = not (eqb n 0) && far in
    let u = and-true (not (eqb (length l) 0)) (leb (length l) 9 && (eqb (length l % 3) 0 && some)) (sym e ∙ t) in
    let v = and-true (leb (length l) 9) (eqb (length l % 3) 0 && some) u.1 in
    let w = and-true (eqb (length l % 3) 0) some v.1 in
    let x = and-true (not (eqb n 0)) far w.1 in
    let y = and-true (leb n 12) rows x.1 in
    playing_start l n (eqb-false (length l) 0 (not-true (eqb (length l) 0) u.0)) (leb-true (length l) 9 v.0)
    (eqb-true (length l % 3) 0 w.0) (leb-true n 12 y.0) (leb-true (tasks_of l).rows (first_broken_lem (tasks_of l)) y.1)

module _ (l : List ℕ) (n : ℕ) (b : Bool) (e : b ≡ playable_of l n) where
  pub search_refused : b ≡ false → Err BrokenRules ≡ search_of l n
  unfolding search_of
  search_refused f = sym (simp (sym e ∙ f))

  module _ (t : b ≡ true) (r : ℕ) (q : r ≡ (tasks_of l).rows) (c : Bool) (f : c ≡ round_of (tasks_of l) n r opening_of) where
    is_forced : c ≡ forced_of (tasks_of l) n opening_of
    is_forced = f ∙ ap (λ (z : ℕ). round_of (tasks_of l) n z opening_of) q ∙ sym (forced_round (tasks_of l) n opening_of)

    pub search_forced : c ≡ true → Ok Forced ≡ search_of l n
    unfolding search_of
    search_forced h = sym (simp (sym e ∙ t, sym is_forced ∙ h))

    pub search_held : c ≡ false → Ok Held ≡ search_of l n
    unfolding search_of
    search_held h = sym (simp (sym e ∙ t, sym is_forced ∙ h))

pub ruleset search_cases = (search_refused, search_forced, search_held)
