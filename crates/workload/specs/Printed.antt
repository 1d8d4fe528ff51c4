-- What `shuffle` prints of accepted lines has the number 0 in each line. Assumes nothing.
use Rattle.std.specs.Prelude.{◌≡◌, ℕ, zero, suc, true, false, List, [], ◌∷◌, ◌++◌, length, drop, ℤ, pos, negsuc, ◌==◌, nat_eq, slice_index_or, refl}
use Rattle.std.proofs.Common.{append_assoc, append-nil, arith, lt-ltb}
use Rattle.decimal.specs.Decimal.{decimal}
use Rattle.decimal.specs.Joined.{join_to}
use Rattle.lines.specs.declared.read.Call.{Call}
use Rattle.lines.specs.declared.read.Call.TheVariants.{Arrive, Choose, Advance, Finish}
use Rattle.lines.specs.declared.read.Line.{Line}
use Rattle.lines.specs.Parted.{parted}
use Rattle.lines.specs.Text.{head_text, line_text}
use Rattle.lines.specs.Input.{without, number_without, without_append, parted_end}
use Rattle.table.specs.Verdict.{Opinion}
use Rattle.report.specs.Text.{signed_text, budget_text, budgets_text, opinion_text}
use Rattle.session.specs.Calls.{shown}
use Rattle.transcript.specs.Step.{queue_limit, letter_of, call_of, answer_text, step_of, calls_text}
use Rattle.workload.specs.Trial.{Trial, onward}
use Rattle.workload.specs.Statement.{third_field, Unrefused}
use Rattle.workload.specs.Accepted as run

-- ---- a text of such lines

-- in front of any text of lines with number 0 it is one
abbrev pub Fine : List ℕ → Type 0
Fine t = (rest : List ℕ) → Unrefused (parted 10 rest) → Unrefused (parted 10 (t ++ rest))

fine_none : Fine []
fine_none rest a = a

pub fine_more : (t u : List ℕ) → Fine t → Fine u → Fine (t ++ u)
fine_more t u f g rest a = rw append_assoc (f (u ++ rest) (g rest a))

pub fine_whole : (t : List ℕ) → Fine t → Unrefused (parted 10 t)
unfolding parted
fine_whole t f = rw append-nil at (f [] refl)

one_more : (p : List ℕ) (l : List (List ℕ)) → third_field (parted 9 p) ≡ decimal 0 → Unrefused l → Unrefused (p ∷ l)
one_more p [] h a = absurd a
one_more p (q ∷ l) h a = (h, a)

-- ---- one line

module _ (clock letter first : ℕ) (value : List ℕ) (tab : nat_eq letter 9 ≡ false) (newline : nat_eq letter 10 ≡ false) (one : without 10 value ≡ true) where
  abbrev body : List ℕ
  body = decimal clock ++ 9 ∷ letter ∷ 9 ∷ (decimal 0 ++ 9 ∷ (decimal first ++ 9 ∷ value))

  body_third : third_field (parted 9 body) ≡ decimal 0
  unfolding parted
  body_third =
      rw (parted_end 9 (decimal clock) (letter ∷ 9 ∷ (decimal 0 ++ 9 ∷ (decimal first ++ 9 ∷ value))) (number_without 9 clock (omega arith)))
      (simp tab (rw (parted_end 9 (decimal 0) (decimal first ++ 9 ∷ value) (number_without 9 0 (omega arith)))))

  body_one : without 10 body ≡ true
  unfolding without
  body_one =
      without_append 10 (decimal clock) _ (number_without 10 clock (omega arith))
      (simp newline
      (without_append 10 (decimal 0) _ (number_without 10 0 (omega arith))
      (without_append 10 (decimal first) _ (number_without 10 first (omega arith)) one)))

  fine_line : Fine (head_text clock letter 0 first ++ (value ++ 10 ∷ []))
  fine_line rest a =
      let whole : head_text clock letter 0 first ++ (value ++ 10 ∷ []) ++ rest ≡ body ++ 10 ∷ rest = simp append_assoc in
      rw (whole, parted_end 10 body rest body_one) (one_more body (parted 10 rest) body_third a)

-- ---- the opinion

signed_one : (v : ℤ) → without 10 (signed_text v) ≡ true
unfolding without
signed_one (pos n) = number_without 10 n (omega arith)
signed_one (negsuc n) = number_without 10 (suc n) (omega arith)

fine_joined : (f : ℕ → List ℕ) (n : ℕ) → ((i : ℕ) → Fine (f i)) → Fine (join_to f n)
unfolding join_to
fine_joined f zero h = fine_none
fine_joined f (suc n) h = fine_more (join_to f n) (f n) (fine_joined f n h) (h n)

fine_budgets : (v : List ℤ) (n : ℕ) → Fine (budgets_text v n)
unfolding budgets_text
fine_budgets v n =
    fine_joined (λ i. budget_text i (slice_index_or v i (pos 0))) n
    (λ i. fine_line 0 66 i (signed_text (slice_index_or v i (pos 0))) refl refl (signed_one (slice_index_or v i (pos 0))))

-- of an admitted table
pub fine_opinion : (a : Opinion) → a.number ≡ 0 → Fine (opinion_text a)
unfolding opinion_text line_text
fine_opinion a e =
    rw e
    (fine_more (head_text 0 77 0 a.first ++ (decimal a.second ++ 10 ∷ [])) (budgets_text a.budgets a.second)
    (fine_line 0 77 a.first (decimal a.second) refl refl (number_without 10 a.second (omega arith)))
    (fine_budgets a.budgets a.second))

-- ---- the calls

letter_plain : (c : Call) → ((letter_of c == 9) ≡ false) × ((letter_of c == 10) ≡ false)
letter_plain (Arrive row) = (refl, refl)
letter_plain Choose = (refl, refl)
letter_plain (Advance n) = (refl, refl)
letter_plain Finish = (refl, refl)

-- of lines that are accepted one after another
pub fine_calls : (x : Trial) (m : ℕ) (l : List Line) → run.AllAccepted x l → Fine (calls_text x.session x.queue m l)
unfolding calls_text step_of onward answer_text line_text
fine_calls x m [] a = fine_none
fine_calls x m (y ∷ l) a = by a.0 (fine_calls (onward x y) (suc m) l a.1)
  where
    by : {y : Line} → run.Accepted x y → Fine (calls_text (onward x y).session (onward x y).queue (suc m) l)
        → Fine (calls_text x.session x.queue m (y ∷ l))
    by (run.queued w room) f = let q = lt-ltb (length x.queue) queue_limit room in simp q (simp q at f)
    by (run.answered c ok) f =
        let o = call_of x.session x.queue c in
        let k = letter_plain c in
        rw ok
        (fine_more (head_text o.session.clock (letter_of c) 0 (shown o.answer).first ++ (decimal (shown o.answer).second ++ 10 ∷ []))
        (calls_text o.session (drop o.used x.queue) (suc m) l)
        (fine_line o.session.clock (letter_of c) (shown o.answer).first (decimal (shown o.answer).second) k.0 k.1
        (number_without 10 (shown o.answer).second (omega arith)))
        f)
