-- The proofs of Statement.antt, of the trial. Assumes nothing.
use Rattle.std.specs.Prelude.{◌≡◌, ℕ, zero, suc, ◌-◌, ◌/◌, ◌≤◌, min, false, ◌⊎◌, List, [], ◌∷◌, ◌++◌, length, take, ◌==◌, ◌≢◌, nat_lt, refl}
use Rattle.std.proofs.Common.{ap, ◌∙◌, append-nil, inl, inr, ⊎_elim, arith, take_all, eq-eqb}
use Rattle.std.proofs.Math.ListN.{length-append}
use Rattle.bounded.specs.Tests.{both, gate}
use Rattle.lines.specs.declared.read.Call.{Call}
use Rattle.lines.specs.declared.read.Call.TheVariants.{Arrive, Choose, Advance}
use Rattle.lines.specs.declared.read.Line.{Line}
use Rattle.lines.specs.declared.read.Line.TheVariants.{Row, Word, Call as CallLine}
use Rattle.lines.specs.Lines.{lines_of}
use Rattle.lines.specs.Input.{AllNarrow, narrow_append, lines_back, text_short}
use Rattle.report.specs.Rows.{row_lines, row_words, lines_append}
use Rattle.report.specs.Text.{opinion_text}
use Rattle.table.specs.Verdict.{opinion_of}
use Rattle.transcript.specs.Transcript.{input_limit, row_limit, rows_in, after_rows, printed_of, output_of}
use Rattle.transcript.specs.Table.{rows_other, after_other}
use Rattle.transcript.specs.Alone.{rows_then, after_then}
use Rattle.workload.specs.Numbers.{next_of, numbers_from}
use Rattle.workload.specs.Table.{row_count, row_of, rows_to, rows_of_seed, table_of}
use Rattle.workload.specs.Trial.{Trial, trial_lines, ready_row_lem, ready, until_next_lem, line_by_lem, line_for, onward, lines_from, trial_start, call_lines, trial_of, text_of}
use Rattle.workload.specs.Statement.{lines_read, ReadWhole, Readable, FiveHundred, HeavyTable, count_of, EnoughEach, words_of, WordsInTurn, NoneRefused}
use Rattle.workload.specs.Loose.{count_few, row_bounds, rows_length, every_heavy}
use Rattle.workload.specs.Accepted.{Accepted, queued, answered, AllAccepted, lines_length}
use Rattle.workload.proofs.AcceptedLaws.{all_played, counted}
use Rattle.workload.specs.Printed.{fine_more, fine_whole, fine_opinion, fine_calls}

rows_narrow : (seed k : ℕ) → k ≤ row_count seed → AllNarrow (row_lines (rows_to seed k))
unfolding rows_to
rows_narrow seed zero h = tt
rows_narrow seed (suc k) h =
    let b = row_bounds seed k in
    let c = count_few seed in
    rw (lines_append (rows_to seed k) (row_of seed k ∷ []))
    (narrow_append (row_lines (rows_to seed k)) (row_lines (row_of seed k ∷ [])) (rows_narrow seed k (omega arith))
    ((omega (arith, b.brief), omega (arith, b.often), omega (arith, b.soon)), tt))

rows_many : (r : List (ℕ × ℕ × ℕ)) → length (row_lines r) ≡ length r
rows_many [] = refl
rows_many (x ∷ r) = ap suc (rows_many r)

rows_count : (letter : ℕ) → (84 == letter) ≡ false → (r : List (ℕ × ℕ × ℕ)) (l : List Line) → count_of letter (row_lines r ++ l) ≡ count_of letter l
unfolding count_of gate
rows_count letter e [] l = refl
rows_count letter e (x ∷ r) l = simp e (omega (arith, rows_count letter e r l))

rows_words : (r : List (ℕ × ℕ × ℕ)) (l : List Line) → words_of (row_lines r ++ l) ≡ words_of l
rows_words [] l = refl
rows_words (x ∷ r) l = rows_words r l

rows_readable : (r : List (ℕ × ℕ × ℕ)) (l : List Line) → Readable l → Readable (row_lines r ++ l)
rows_readable [] l h = h
rows_readable (x ∷ r) l h = rows_readable r l h

-- ---- the lines after it

accepted_readable : (x : Trial) (l : List Line) → AllAccepted x l → Readable l
accepted_readable x [] a = tt
accepted_readable x (y ∷ l) a = by a.0 (accepted_readable (onward x y) l a.1)
  where
    by : {y : Line} → Accepted x y → Readable l → Readable (y ∷ l)
    by (queued w room) h = h
    by (answered c ok) h = h

accepted_call : {x : Trial} {y : Line} → Accepted x y → (c t d : ℕ) → y ≢ Row c t d
accepted_call (queued w room) c t d e = let z : ◌≡◌ {A = ℕ} 0 1 = cc in omega arith
accepted_call (answered k ok) c t d e = let z : ◌≡◌ {A = ℕ} 0 1 = cc in omega arith

-- a line is a call, or a word: the next number
said : (x : Trial) → (line_for x ≡ Word (next_of x.number)) ⊎ ((c : Call) × (line_for x ≡ CallLine c))
unfolding line_by_lem
said x =
    both (ready x.session) (λ e. inr (Arrive (ready_row_lem x.session), simp e))
    (λ e. both (nat_lt 0 x.session.span) (λ f. inr (Advance (min x.session.span (until_next_lem x.session)), simp (e, f)))
    (λ f. both x.given (λ t. inr (Choose, simp (e, f, t))) (λ t. inl (simp (e, f, t)))))

-- each word is the next number, from any place on
lines_words : (k : ℕ) (x : Trial) → words_of (lines_from k x) ≡ numbers_from x.number (length (words_of (lines_from k x)))
unfolding lines_from numbers_from onward
lines_words zero x = refl
lines_words (suc k) x =
    ⊎_elim (λ e. rw e (ap (λ (l : List ℕ). next_of x.number ∷ l) (lines_words k (onward x (Word (next_of x.number))))))
    (λ (p : (c : Call) × (line_for x ≡ CallLine c)). rw p.1 (lines_words k (onward x (CallLine p.0)))) (said x)

-- ---- the whole trial

module _ (seed : ℕ) where
  abbrev n : ℕ
  n = row_count seed

  abbrev calls : List Line
  calls = call_lines seed

  calls_accepted : AllAccepted (trial_start seed) calls
  unfolding call_lines
  calls_accepted = (all_played seed).accepted

  calls_narrow : AllNarrow calls
  unfolding call_lines
  calls_narrow = (all_played seed).narrow

  calls_length : length calls ≡ 500 - n
  unfolding call_lines
  calls_length = lines_length (500 - n) (trial_start seed)

  trial_narrow : AllNarrow (trial_of seed)
  unfolding trial_of
  trial_narrow = narrow_append (row_lines (rows_of_seed seed)) calls (rows_narrow seed n (omega arith)) calls_narrow

  trial_length : length (trial_of seed) ≡ trial_lines
  unfolding trial_of
  trial_length =
      length-append (row_lines (rows_of_seed seed)) calls
      ∙ omega (arith, rows_many (rows_of_seed seed), rows_length seed n, calls_length, count_few seed)

  trial_back : lines_read seed ≡ trial_of seed
  unfolding text_of
  trial_back = lines_back (trial_of seed) trial_narrow

  -- the calls begin with no row
  calls_none : (k : ℕ) → (rows_in k calls ≡ []) × (after_rows k calls ≡ calls)
  calls_none k = by calls calls_accepted calls_length
    where
      by : (l : List Line) → AllAccepted (trial_start seed) l → length l ≡ 500 - n → (rows_in k l ≡ []) × (after_rows k l ≡ l)
      by [] a e = absurd (omega (arith, e, count_few seed))
      by (y ∷ l) a e = (rows_other k y l (accepted_call a.0), after_other k y l (accepted_call a.0))

  few : length (rows_of_seed seed) ≤ row_limit
  few = omega (arith, rows_length seed n, count_few seed)

  trial_rows : rows_in row_limit (trial_of seed) ≡ table_of seed
  unfolding trial_of table_of
  trial_rows =
      rows_then calls row_limit (rows_of_seed seed) few
      ∙ rw (calls_none (row_limit - length (rows_of_seed seed))).0 (append-nil (row_words (rows_of_seed seed)))

  trial_rest : after_rows row_limit (trial_of seed) ≡ calls
  unfolding trial_of
  trial_rest = after_then calls row_limit (rows_of_seed seed) few ∙ (calls_none (row_limit - length (rows_of_seed seed))).1

pub read_whole : ReadWhole
unfolding text_of
read_whole seed = omega (arith, text_short (trial_of seed) (trial_narrow seed), trial_length seed)

pub five_hundred : FiveHundred
unfolding trial_of
five_hundred seed =
    rw (trial_back seed)
    ((trial_length seed), rows_readable (rows_of_seed seed) (call_lines seed) (accepted_readable (trial_start seed) (call_lines seed) (calls_accepted seed)))

pub heavy_table : HeavyTable
heavy_table seed = (ap (rows_in row_limit) (trial_back seed) ∙ trial_rows seed, every_heavy seed)

pub enough_each : EnoughEach
unfolding trial_of call_lines
enough_each seed =
    let c = counted seed in
    let r = rows_of_seed seed in
    let l = call_lines seed in
    rw (trial_back seed)
    (record {
      arrivals = omega (arith, rows_count 65 refl r l, c.0);
      words = omega (arith, rows_count 87 refl r l, c.1);
      choices = omega (arith, rows_count 71 refl r l, c.2);
      steps = omega (arith, rows_count 82 refl r l, c.3);
      finishes = omega (arith, rows_count 70 refl r l, c.4);
    })

pub words_in_turn : WordsInTurn
unfolding trial_of call_lines trial_start
words_in_turn seed =
    rw (trial_back seed, rows_words (rows_of_seed seed) (call_lines seed)) (lines_words (500 - row_count seed) (trial_start seed))

-- NONE IS REFUSED
pub none_refused : NoneRefused
unfolding output_of printed_of trial_start
none_refused seed =
    let all : lines_of (take input_limit (text_of seed)) ≡ trial_of seed = ap lines_of (take_all input_limit (text_of seed) (read_whole seed)) ∙ trial_back seed in
    let yes = (every_heavy seed).admitted in
    rw (all, trial_rows seed, trial_rest seed)
    (fine_whole _
    (simp (eq-eqb (opinion_of (table_of seed)).number 0 yes)
    (fine_more (opinion_text (opinion_of (table_of seed))) _ (fine_opinion (opinion_of (table_of seed)) yes)
    (fine_calls (trial_start seed) (suc (length (table_of seed) / 3)) (call_lines seed) (calls_accepted seed)))))
