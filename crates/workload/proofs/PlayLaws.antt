-- More laws of specs/Play.antt: they rest on what a must-fail edit makes false. Assumes nothing.
use Rattle.std.specs.Prelude.{◌≡◌, ℕ, suc, ◌+◌, ◌-◌, ◌*◌, ◌<◌, ◌≤◌, false, List, [], ◌∷◌, ◌++◌, length, replicate, refl}
use Rattle.std.proofs.Common.{sym, subst, ◌∙◌}
use Rattle.std.proofs.Math.Path.{ap}
use native.Mathlib.Omega.{arith}
use Rattle.std.proofs.lemmas.List.{length-replicate}
use Rattle.decimal.specs.Buffer.{Wrote, owing_start, owing_next}
use Rattle.lines.specs.declared.read.Line.{Line}
use Rattle.lines.specs.Input.{input_line, input_text}
use Rattle.session.specs.declared.Session.{Session}
use Rattle.session.specs.Start.{session_of}
use Rattle.workload.specs.declared.play.Progress.{Progress}
use Rattle.workload.specs.Table.{row_count, table_of}
use Rattle.workload.specs.Trial.{Trial, trial_lines, line_by_lem, line_for, onward, lines_from, trial_start, call_lines}
use Rattle.workload.specs.Stands.{rows}
use Rattle.workload.proofs.AcceptedLaws.{next_line, first_stand}
use Rattle.workload.specs.Play.{trial_in, Ready, Went, Held, stands, Playing, play_rows, play_sound, play_ready, play_room, play_done, held}

pub play_start : (seed start rows left : ℕ) (s : Session) (first : List ℕ) → s ≡ session_of (table_of seed) → rows ≡ row_count seed
    → left ≡ 500 - rows → start + 65 * (trial_lines - row_count seed) ≤ length first
    → Playing seed start first s (record { from = 0; to = 0; number = seed; given = false }) (replicate 512 0) first start left
unfolding call_lines trial_start
play_start seed start rows left s first e r l h =
    let k : left ≡ trial_lines - row_count seed = omega arith in
    rw (e, k) (record {
      done = [];
      stand = held (first_stand seed);
      lines = omega arith;
      order = omega arith;
      queued = omega arith;
      places = length-replicate {A = ℕ} 512 0;
      room = h;
      most = omega arith;
      owing = owing_start (input_text (call_lines seed)) first start _ refl;
    })

module _ (seed start : ℕ) (first : List ℕ) (s : Session) (p : Progress) (words out : List ℕ) (end left : ℕ)
    (now : Playing seed start first s p words out end left) where
  abbrev x : Trial
  x = trial_in s p words

  module _ (more : 0 < left) where
    module _ (y : Line) (t : Session) (r : Progress) (words' out' : List ℕ) (end' : ℕ) (is : y ≡ line_by_lem s p.number p.given)
        (w : Wrote 65 (input_line y) out out' end end') (g : Went y s t p r words words') where
      onward_is : trial_in t r words' ≡ onward x (line_for x)
      onward_is = g.trial ∙ ap (onward x) is

      owed : input_text (lines_from left x) ≡ input_line y ++ input_text (lines_from (left - 1) (trial_in t r words'))
      unfolding input_text lines_from
      owed =
          let k : left ≡ suc (left - 1) = omega arith in
          ap (λ (m : ℕ). input_text (lines_from m x)) k ∙ rw (is, onward_is)

      pub play_next : (rest : ℕ) → rest ≡ left - 1 → Playing seed start first t r words' out' end' rest
      play_next rest same =
          let fits : end + length (input_line y) ≤ length out = omega (arith, (play_room seed start first s p words out end left now more), w.short) in
          let n = next_line seed x now.done (stands now.stand) (omega (arith, now.lines)) in
          rw same record {
            done = line_for x ∷ now.done;
            stand = subst (λ (z : Trial). Held seed z (line_for x ∷ now.done)) (sym onward_is) (held n.stand);
            lines = omega (arith, now.lines);
            order = g.order;
            queued = omega (arith, g.most, now.queued);
            places = g.places ∙ now.places;
            room = now.room;
            most = omega (arith, w.place, w.short, now.most);
            owing = owing_next _ _ _ _ _ _ now.owing 65 (input_line y) (input_text (lines_from (left - 1) (trial_in t r words'))) out' end' owed fits w;
          }

-- at turn k of the loop
module _ (seed start : ℕ) (first : List ℕ) (s : Session) (p : Progress) (words out : List ℕ) (end k : ℕ)
    (now : Playing seed start first s p words out end (500 - k)) where
  pub turn_done : 500 ≤ k → Wrote (65 * (trial_lines - row_count seed)) (input_text (call_lines seed)) first out start end
  turn_done h = play_done seed start first s p words out end (500 - k) now (omega arith)

  module _ (h : k < 500) where
    pub turn_ready : Ready p words
    turn_ready = play_ready seed start first s p words out end (500 - k) now (omega arith)

    pub turn_room : end + 65 ≤ length out
    turn_room = play_room seed start first s p words out end (500 - k) now (omega arith)

    pub turn_next : (y : Line) (t : Session) (r : Progress) (words' out' : List ℕ) (end' : ℕ) → y ≡ line_by_lem s p.number p.given
        → Wrote 65 (input_line y) out out' end end' → Went y s t p r words words' → Playing seed start first t r words' out' end' (500 - (k + 1))
    turn_next y t r words' out' end' is w g =
        play_next seed start first s p words out end (500 - k) now (omega arith) y t r words' out' end' is w g (500 - (k + 1)) (omega arith)

pub ruleset play_laws = (play_start, play_rows, play_sound, turn_ready, turn_room, turn_next, turn_done)
