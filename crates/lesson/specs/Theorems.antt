-- The proof of Statement.antt. Assumes nothing.
use Rattle.std.specs.Prelude.{ℕ, suc, ◌+◌, ◌*◌, ◌%◌, ◌≤◌, ◌<◌, ◌≡◌, refl, true, false, List, [], ◌∷◌, ◌++◌, ltb, eqb, length}
use Rattle.std.proofs.Common.{ap, ◌∙◌, append_assoc, append-nil, arith, length-append, lt-ltb, ltb-true, leb-true, eq-eqb, ne_eqb}
use Rattle.bounded.specs.Tests.{both, and-true}
use Rattle.edf.specs.Demand.{TaskSet, Lawful}
use Rattle.game.specs.Game.{line_to}
use Rattle.game.proofs.TheoremsLaws.{line_wins}
use Rattle.lines.specs.Text.{line_text, line_length}
use Rattle.table.specs.Rows.{tasks_of, fit_lawful}
use Rattle.gametree.specs.Entry.{search_of, numbers_of}
use Rattle.gametree.specs.Theorems.{forced_playing}
use Rattle.report.specs.Rows.{row_words}
use Rattle.lesson.specs.declared.item.Item.{Item}
use Rattle.lesson.specs.declared.item.Item.TheVariants.{Row, Ask, Unreadable}
use Rattle.lesson.specs.Lesson.{overload_by, line_of_releases, finding_text, answer_text, Table, no_table, added, step_of, answers_from, output_of}
use Rattle.lesson.specs.Put.{forced_within, forced_over}
use Rattle.lesson.specs.Statement.{PrintedLineWins, NeverEmpty, row_items, RowsAsked}

-- ---- the line of releases

-- a job of it is due by t, D from its release, so its release is before t
line_whole : (τ : TaskSet) → Lawful τ → (t c i : ℕ) → line_to τ t c i ≡ true → (c < t) × (i < τ.rows)
unfolding line_to
line_whole τ ok t c i e =
    let a = and-true (ltb i τ.rows) _ e in
    let b = and-true (eqb (c % τ.T i) 0) _ a.1 in
    let l = ltb-true i τ.rows a.0 in
    (omega (arith, leb-true (c + τ.D i) t b.1, ok i l), l)

pub printed_line_wins : PrintedLineWins
unfolding answer_text numbers_of
printed_line_wins l n w =
    let t = overload_by (tasks_of l) n in
    let ok = fit_lawful (tasks_of l) (forced_playing l n w).fit in
    let within = forced_within l n (search_of l n) refl w t refl in
    record {
      t = t;
      least = refl;
      within = within;
      over = forced_over l n w;
      text = ap (finding_text l n) w;
      wins = line_wins (tasks_of l) ok n t within (forced_over l n w);
      whole = line_whole (tasks_of l) ok t;
    }

-- ---- no output is empty

some_line : (clock letter number first second : ℕ) (l : List ℕ) → 1 ≤ length (line_text clock letter number first second ++ l)
some_line clock letter number first second l =
    omega (arith, length-append (line_text clock letter number first second) l, line_length clock letter number first second)

some_answer : (l : List ℕ) (m : ℕ) (rest : List ℕ) → 1 ≤ length (answer_text l m ++ rest)
unfolding answer_text
some_answer l m rest =
    let v = numbers_of (search_of l m) in
    omega (arith, length-append (answer_text l m) rest, some_line 0 78 v.number v.first v.second (line_of_releases l m (search_of l m)))

never_empty_from : (n : ℕ) (t : Table) (l : List Item) → t.asked ≡ 0 → 1 ≤ length (answers_from n t l)
unfolding answers_from step_of
never_empty_from n t [] z =
    simp (eq-eqb t.asked 0 z) (omega (arith, some_answer t.rows 0 [], ap length (append-nil (answer_text t.rows 0))))
never_empty_from n t (Row c p d ∷ l) z =
    both (ltb (length t.rows) 48) (λ e. simp e (never_empty_from (suc n) (added t c p d).table l z)) (λ e. simp e (some_line 0 63 13 n 0 []))
never_empty_from n t (Ask m ∷ l) z =
    simp (lt-ltb t.asked 12 (omega arith)) (some_answer t.rows m _)
never_empty_from n t (Unreadable ∷ l) z = some_line 0 63 13 n 0 []

pub never_empty : NeverEmpty
unfolding output_of
never_empty input = never_empty_from 1 no_table _ refl

-- ---- rows and a question

-- from a table with some rows on
rows_from : (n : ℕ) (t : Table) (rows : List (ℕ × ℕ × ℕ)) (m : ℕ) → t.asked ≡ 0 → length t.rows + 3 * length rows ≤ 48
    → answers_from n t (row_items rows ++ Ask m ∷ []) ≡ answer_text (t.rows ++ row_words rows) m
unfolding answers_from step_of
rows_from n t [] m z h =
    let asks : ltb t.asked 12 ≡ true = lt-ltb t.asked 12 (omega arith) in
    let more : eqb (suc t.asked) 0 ≡ false = ne_eqb (suc t.asked) 0 (λ q. omega (arith, q)) in
    simp asks (simp (more, append-nil))
rows_from n t (r ∷ rows) m z h =
    let room : ltb (length t.rows) 48 ≡ true = lt-ltb (length t.rows) 48 (omega arith) in
    let next = (added t r.0 r.1 r.2).table in
    simp room
    (rows_from (suc n) next rows m z (omega (arith, length-append t.rows (r.0 ∷ r.1 ∷ r.2 ∷ [])))
    ∙ ap (λ (l : List ℕ). answer_text l m) (append_assoc t.rows (r.0 ∷ r.1 ∷ r.2 ∷ []) (row_words rows)))

pub rows_asked : RowsAsked
rows_asked n rows m h = rows_from n no_table rows m refl (omega arith)
