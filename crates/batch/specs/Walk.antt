-- The walk over the records, place by place, is the walk over their list (docs/SPECIFICATION.md §5.9). Assumes nothing.
use Rattle.std.specs.Prelude.{ℕ, zero, suc, ◌+◌, ◌≡◌, refl, Bool, true, false, Option, Some, MatchOption, List, [], ◌∷◌, length, get_or, set}
use Rattle.std.proofs.Common.{ap, ◌∙◌, add-one}
use Rattle.bounded.specs.Fold.{fold_to}
use Rattle.table.specs.Inverse.{Inverses}
use Rattle.session.specs.declared.Session.{Session}
use Rattle.session.specs.declared.Numbers.{Numbers}
use Rattle.session.specs.declared.Arrival.{Arrival}
use Rattle.session.specs.declared.Answer.{Answer}
use Rattle.session.specs.declared.Answer.TheVariants.{Unsound}
use Rattle.session.specs.declared.Outcome.{Outcome}
use Rattle.session.specs.Reading.{tasks}
use Rattle.session.specs.Sound.{sound}
use Rattle.session.specs.Calls.{Shows, shown, refused, arrive_in, arrive_of}
use Rattle.session.specs.Guard.{checked_yes, checked_no}
use Rattle.session.specs.Arrive.{arrive_sound, arrive_rows, arrive_marks}
use Rattle.session.specs.Brittle.{Marks}
use Rattle.session.specs.Batch.{answered, after_all, answered_all}
use Rattle.calls.specs.Code.{MarkOf, mark_of}
use Rattle.batch.specs.declared.Shared.{Shared}

-- ---- one record

-- what is known of a sound session
pub record Shares (s : Session) (g : Shared) : Type 0 where
  pub found : sound s ≡ true
  pub marks : Marks s g.brittle
  pub inverses : Inverses (tasks s) g.inverses

-- what is known of a session: nothing is shared where it is not sound
abbrev pub Known : Session → Option Shared → Type 0
Known s g = MatchOption g (sound s ≡ false) (Shares s)

-- the check finds it
pub known_sound : (s : Session) (m : List Bool) (v : List ℕ) → (sound s ≡ true) × Marks s m → Inverses (tasks s) v
    → Shares s (record { brittle = m; inverses = v })
known_sound s m v h e = record { found = h.0; marks = h.1; inverses = e }

-- its row arrives
module _ (s : Session) (row : ℕ) (o : Outcome) (jobs : length s.jobs ≡ 16) (words : length s.words ≡ 48) where
  pub checked_in : (x : Option Shared) (g : Shared) → x ≡ Some g → Shares s g → o ≡ arrive_in s row → (o ≡ arrive_of s row) × Known o.session x
  unfolding arrive_of
  checked_in x g is k h =
      let e : o ≡ arrive_of s row = checked_yes s o (arrive_in s row) k.found h in (
        e,
        rw is
            (record {
              found = rw e (arrive_sound s row jobs words ∙ k.found);
              marks = rw e (arrive_marks s row g.brittle k.marks);
              inverses = rw (e, arrive_rows s row) k.inverses;
            }),
      )

  pub checked_out : sound s ≡ false → o ≡ refused s Unsound → (o ≡ arrive_of s row) × (sound o.session ≡ false)
  unfolding arrive_of
  checked_out f h =
      let e : o ≡ arrive_of s row = checked_no s o (arrive_in s row) f h in
      (e, rw e (arrive_sound s row jobs words ∙ f))

pub known_asks : (s : Session) (g : Shared) (row : ℕ) → Shares s g → (sound s ≡ true) × Inverses (tasks s) g.inverses × MarkOf s g.brittle row
known_asks s g row k = (k.found, k.inverses, mark_of s g.brittle row k.marks)

-- its answer is put in its place
pub filled_is : (a : Arrival) (x : Answer) (n : Numbers) → Shows (shown x) n
    → record { row = a.row; number = n.number; first = n.first; second = n.second } ≡ answered a (shown x)
filled_is a x n h = rw (h.number, h.first, h.second)

-- ---- all of them

abbrev pub no_arrival : Arrival
no_arrival = record { row = 0; number = 0; first = 0; second = 0 }

-- the record at place i, with the session so far
abbrev pub turn : Session × List Arrival → ℕ → Session × List Arrival
turn x i = (
  (arrive_of x.0 (get_or x.1 i no_arrival).row).session,
  set x.1 i (answered (get_or x.1 i no_arrival) (shown (arrive_of x.0 (get_or x.1 i no_arrival).row).answer)),
)

pub walk_start : (s : Session) (l : List Arrival) → (s, l) ≡ fold_to turn (s, l) 0
unfolding fold_to
walk_start s l = refl

pub walk_next : (s t : Session) (l m : List Arrival) (i : ℕ) (o : Outcome) (a : Arrival) → (t, m) ≡ fold_to turn (s, l) i
    → o ≡ arrive_of t (get_or m i no_arrival).row → a ≡ answered (get_or m i no_arrival) (shown o.answer)
    → (o.session, set m i a) ≡ fold_to turn (s, l) (i + 1)
unfolding fold_to
walk_next s t l m i o a e h g = rw (g, h, add-one) (ap (λ (x : Session × List Arrival). turn x i) e)

-- the first turn is the first record's, and the others are those of the rest of the list
walk_head : (s : Session) (a : Arrival) (l : List Arrival) (n : ℕ)
    → fold_to turn (s, a ∷ l) (suc n)
    ≡ (
      (fold_to turn ((arrive_of s a.row).session, l) n).0,
      answered a (shown (arrive_of s a.row).answer) ∷ (fold_to turn ((arrive_of s a.row).session, l) n).1,
    )
unfolding fold_to
walk_head s a l zero = refl
walk_head s a l (suc n) = ap (λ (x : Session × List Arrival). turn x (suc n)) (walk_head s a l n)

walk_is : (s : Session) (l : List Arrival) → fold_to turn (s, l) (length l) ≡ (after_all s l, answered_all s l)
unfolding fold_to after_all answered_all
walk_is s [] = refl
walk_is s (a ∷ l) = walk_head s a l (length l) ∙ rw (walk_is (arrive_of s a.row).session l)

pub walk_done : (s t : Session) (l m : List Arrival) (i : ℕ) → (t, m) ≡ fold_to turn (s, l) i → i ≡ length l
    → (t ≡ after_all s l) × (m ≡ answered_all s l)
walk_done s t l m i e k =
    let x = e ∙ ap (fold_to turn (s, l)) k ∙ walk_is s l in
    (ap (λ (z : Session × List Arrival). z.0) x, ap (λ (z : Session × List Arrival). z.1) x)
