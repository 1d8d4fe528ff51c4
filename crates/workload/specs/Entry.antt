-- The code of the whole trial, and the entry points. Assumes nothing.
use Rattle.std.specs.Prelude.{Option, Some, None, ◌≡◌, ℕ, ◌+◌, ◌-◌, ◌*◌, ◌<◌, ◌≤◌, List, length, take, refl}
use Rattle.std.proofs.Common.{sym, ap, ◌∙◌, arith}
use Rattle.std.proofs.Math.Logic.{dite}
use Rattle.std.proofs.Math.Decide.{dec_lt}
use Rattle.decimal.specs.Buffer.{Wrote, wrote_none, wrote_more, wrote_within, wrote_length}
use Rattle.lines.specs.Input.{input_text, text_append}
use Rattle.report.specs.Rows.{row_lines}
use Rattle.report.specs.Whole.{Filled, too_short, printed}
use Rattle.session.specs.declared.Session.{Session}
use Rattle.session.specs.Start.{no_session, fresh_of, session_of, start_fresh}
use Rattle.transcript.specs.declared.rows.Rows.{Rows}
use Rattle.workload.specs.Table.{row_count, rows_of_seed, table_of}
use Rattle.workload.specs.Trial.{trial_lines, call_lines, trial_of, trial_room, text_of, seed_of, load_of}
use Rattle.workload.specs.Loose.{count_few, every_heavy}
use Rattle.workload.specs.Rows.{Tabled}

module _ (seed : ℕ) (t : Rows) (before middle : List ℕ) (h : trial_room ≤ length before) (d : Tabled seed t before middle) where
  -- every table of a seed is loose
  pub trial_fresh : (s : Session) (l : List ℕ) → l ≡ take (3 * t.count) t.words → s ≡ fresh_of l 1 → s ≡ session_of (table_of seed)
  trial_fresh s l e f =
      let y = every_heavy seed in
      f ∙ ap (λ (m : List ℕ). fresh_of m 1) (e ∙ d.words)
      ∙ ap (fresh_of (table_of seed)) (sym y.loose)
      ∙ sym (start_fresh no_session (table_of seed) y.admitted)

  fits : 0 + length (input_text (row_lines (rows_of_seed seed))) ≤ length before
  fits = omega (arith, d.wrote.short, count_few seed)

  same : length middle ≡ length before
  same = wrote_length (65 * row_count seed) (input_text (row_lines (rows_of_seed seed))) before middle 0 t.at fits d.wrote

  pub trial_room_lem : t.at + 65 * (trial_lines - row_count seed) ≤ length middle
  trial_room_lem = omega (arith, same, d.wrote.place, d.wrote.short, count_few seed)

  pub trial_written : (after : List ℕ) (r : ℕ) → Wrote (65 * (trial_lines - row_count seed)) (input_text (call_lines seed)) middle after t.at r
      → Wrote trial_room (text_of seed) before after 0 r
  unfolding text_of trial_of
  trial_written after r w =
      rw (text_append (row_lines (rows_of_seed seed)) (call_lines seed))
      (wrote_within (65 * row_count seed + 65 * (trial_lines - row_count seed)) trial_room _ before after 0 r (omega (arith, count_few seed))
      (wrote_more (65 * row_count seed) (65 * (trial_lines - row_count seed)) (input_text (row_lines (rows_of_seed seed))) (input_text (call_lines seed))
      before middle after 0 t.at r fits d.wrote w))

pub ruleset trial_laws = (trial_fresh, trial_room_lem, trial_written)

-- ---- the entry points

pub generate_short : (seed : ℕ) (before : List ℕ) → length before < 32500 → Filled trial_room (text_of seed) before before 0
generate_short seed before h = too_short h refl refl

pub generate_done : (seed : ℕ) (before after : List ℕ) (r : ℕ) → 32500 ≤ length before → Wrote trial_room (text_of seed) before after 0 r
    → Filled trial_room (text_of seed) before after r
generate_done seed before after r h w = printed h w

pub ruleset generate_cases = (generate_short, generate_done)

pub load_seed : (input before after : List ℕ) (n : Option ℕ) (seed r : ℕ) → n ≡ seed_of input → n ≡ Some seed → Filled trial_room (text_of seed) before after r
    → Filled trial_room (load_of input) before after r
unfolding load_of
load_seed input before after n seed r e f w = rw (sym e ∙ f) w

pub load_none : (input before : List ℕ) (n : Option ℕ) → n ≡ seed_of input → n ≡ None → Filled trial_room (load_of input) before before 0
unfolding load_of
load_none input before n e f =
    rw (sym e ∙ f) (dite (dec_lt (length before) trial_room) (λ l. too_short l refl refl) (λ l. printed (omega arith) (wrote_none trial_room before 0)))
