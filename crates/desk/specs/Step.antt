-- What the code of one line keeps, and its cases. Assumes nothing.
use Rattle.std.specs.Prelude.{ℕ, ◌+◌, ◌*◌, ◌≤◌, ◌<◌, ◌≡◌, Bool, false, Result, List, [], ◌∷◌, take}
use Rattle.std.proofs.Math.Path.{refl, ap, subst}
use Rattle.std.proofs.Common.{sym, ◌∙◌, arith, length-append, length-take-le}
use Rattle.std.proofs.Math.Bool.{true, cond, or-true}
use Rattle.std.proofs.Math.Dec.{ltb}
use Rattle.std.proofs.Math.ListN.{length}
use borrow.Author.Tests.{lt-ltb, le-ltb}
use Rattle.decimal.specs.Buffer.{Wrote, wrote_none, wrote_more, wrote_within}
use Rattle.lines.specs.declared.read.Call.{Call as CallKind}
use Rattle.lines.specs.declared.read.Line.{Line}
use Rattle.lines.specs.declared.read.Line.TheVariants.{Row, Word, Call, Empty, Unreadable}
use Rattle.lines.specs.Text.{line_text}
use Rattle.table.specs.declared.Judgement.{Judgement}
use Rattle.table.specs.declared.Refusal.{Refusal}
use Rattle.table.specs.Rows.{tasks_of}
use Rattle.table.specs.Words.{words_with, words_places, words_more}
use Rattle.table.specs.Verdict.{Opinion, opinion_of}
use Rattle.table.specs.Opinion.{shown_of}
use Rattle.table.proofs.TheoremsLaws.{opinion_admitted}
use Rattle.report.specs.Text.{opinion_text}
use Rattle.report.specs.Put.{Reported}
use Rattle.desk.specs.declared.step.Progress.{Progress}
use Rattle.desk.specs.Opinions.{Draft, begun, closing, Step, added, unread, step_of}
use Rattle.desk.specs.Short.{unread_short, opinion_short}

-- the table at hand
abbrev pub draft_of : List ℕ → Progress → Draft
draft_of w p = record { rows = take (3 * p.count) w; spoiled = p.spoiled }

-- there is room for an opinion and an empty line
pub record Ready (p : Progress) (out : List ℕ) : Type 0 where
  pub few : p.count ≤ 16
  pub line : p.line < 1000000
  pub room : p.end + 1479 ≤ length out

-- how many bytes a line takes at least if a newline ends it
abbrev pub ended_size : Line → ℕ
ended_size (Row c t d) = 8
ended_size (Word w) = 2
ended_size (Call c) = 2
ended_size Empty = 1
ended_size Unreadable = 2

-- r is what the step x, of a line of k bytes, leads to from p, with the words v in place of w
pub record Did (x : Step) (k : ℕ) (p r : Progress) (w v before after : List ℕ) : Type 0 where
  pub wrote : Wrote 1479 x.text before after p.end r.end
  pub table : draft_of v r ≡ x.table
  pub few : r.count ≤ 16
  pub places : length v ≡ length w
  pub line : r.line ≡ p.line + 1
  pub size : r.end + 88 * r.count ≤ p.end + 88 * p.count + 11 * k

-- the step of a line
abbrev pub LineDid : Line → Progress → Progress → List ℕ → List ℕ → List ℕ → List ℕ → Type 0
LineDid x p r w v before after = Did (step_of p.line (draft_of w p) x) (ended_size x) p r w v before after

-- it was printed that the line is unreadable
pub record Unread (p r : Progress) (before after : List ℕ) : Type 0 where
  pub wrote : Wrote 86 (line_text 0 63 13 p.line 0) before after p.end r.end
  pub short : length (line_text 0 63 13 p.line 0) ≤ 16
  pub few : p.count ≤ 16
  pub count : r.count ≡ p.count
  pub spoiled : r.spoiled ≡ true
  pub line : r.line ≡ p.line + 1

-- the opinion on the table at hand was printed, unless that is spoiled
pub record Answered (p : Progress) (w before after : List ℕ) (r : ℕ) : Type 0 where
  pub wrote : Wrote 1478 (cond p.spoiled [] (opinion_text (opinion_of (take (3 * p.count) w)))) before after p.end r
  pub short : length (cond p.spoiled [] (opinion_text (opinion_of (take (3 * p.count) w)))) ≤ 10 + 88 * p.count

-- and an empty line after it
pub record Closed (p : Progress) (w : List ℕ) (r : Progress) (before after : List ℕ) : Type 0 where
  pub wrote : Wrote 1479 (closing (draft_of w p)) before after p.end r.end
  pub short : length (closing (draft_of w p)) ≤ 11 + 88 * p.count
  pub count : r.count ≡ 0
  pub spoiled : r.spoiled ≡ false
  pub line : r.line ≡ p.line + 1

-- what the end of the input prints
abbrev pub last_text : Draft → List ℕ
last_text t = cond (begun t) (closing t) []

pub record Finished (text : List ℕ) (p : Progress) (before after : List ℕ) (r : ℕ) : Type 0 where
  pub wrote : Wrote 1479 text before after p.end r
  pub short : length text ≤ 11 + 88 * p.count

-- ---- `unreadable`

pub unread_is : (p : Progress) (before after : List ℕ) (end : ℕ) → Ready p before → Wrote 86 (line_text 0 63 13 p.line 0) before after p.end end
    → Unread p (record { count = p.count; spoiled = true; line = p.line + 1; end = end }) before after
unread_is p before after end ready w = record {
  wrote = w;
  short = unread_short p.line ready.line;
  few = ready.few;
  count = refl;
  spoiled = refl;
  line = refl;
}

-- ---- `put_answer`

module _ (p : Progress) (w before : List ℕ) (ready : Ready p before) (places : length w ≡ 48) where
  rows_length : length (take (3 * p.count) w) ≡ 3 * p.count
  rows_length = length-take-le (3 * p.count) w (omega (arith, ready.few))

  pub answer_none : p.spoiled ≡ true → Answered p w before before p.end
  answer_none e = rw e record { wrote = wrote_none 1478 before p.end; short = omega arith }

  module _ (ws : List ℕ) (f : ws ≡ take (3 * p.count) w) (j : Result Judgement Refusal) (op : shown_of j ≡ opinion_of ws) where
    pub answer_rows : (shown_of j).number ≡ 0 → (shown_of j).second ≡ p.count
    unfolding tasks_of
    answer_rows z =
        ap (λ (x : Opinion). x.second) op
        ∙ (opinion_admitted ws (sym (ap (λ (x : Opinion). x.number) op) ∙ z)).1
        ∙ omega (arith, ap length f, rows_length)

    pub answer_is : (after : List ℕ) (r : ℕ) → p.spoiled ≡ false → Reported (shown_of j) p.count before after p.end r → Answered p w before after r
    answer_is after r e x =
        let y : Reported (opinion_of (take (3 * p.count) w)) p.count before after p.end r = rw (op, f) at x in
        rw e record {
          wrote = y.wrote;
          short = opinion_short (take (3 * p.count) w) p.count rows_length ready.few before after p.end r y;
        }

pub ruleset answer_cases = (answer_none, answer_rows, answer_is)

-- ---- `close`

pub close_is : (p : Progress) (w before middle after : List ℕ) (e end : ℕ) → Ready p before → Answered p w before middle e
    → Wrote 1 (10 ∷ []) middle after e end
    → Closed p w (record { count = 0; spoiled = false; line = p.line + 1; end = end }) before after
unfolding closing
close_is p w before middle after e end ready a x =
    let t = cond p.spoiled [] (opinion_text (opinion_of (take (3 * p.count) w))) in
    record {
      wrote = wrote_more 1478 1 t (10 ∷ []) before middle after p.end e end (omega (arith, a.wrote.short, ready.room)) a.wrote x;
      short = simp length-append (omega (arith, a.short));
      count = refl;
      spoiled = refl;
      line = refl;
    }

-- ---- `add`

-- an unreadable line, of k bytes
did_unread : (x : Step) (k : ℕ) (p r : Progress) (w before after : List ℕ) → x ≡ unread p.line (draft_of w p) → 2 ≤ k → Unread p r before after
    → Did x k p r w w before after
did_unread x k p r w before after e h u =
    subst (λ (y : Step). Did y k p r w w before after) (sym e) record {
      wrote = wrote_within 86 1479 _ before after p.end r.end (omega arith) u.wrote;
      table = rw (u.count, u.spoiled);
      few = omega (arith, u.count, u.few);
      places = refl;
      line = u.line;
      size = omega (arith, u.wrote.place, u.short, u.count);
    }

module _ (c t d : ℕ) (p : Progress) (w before : List ℕ) (ready : Ready p before) (places : length w ≡ 48) where
  pub add_full : (r : Progress) (after : List ℕ) → 16 ≤ p.count → Unread p r before after → LineDid (Row c t d) p r w w before after
  unfolding step_of
  add_full r after h u =
      did_unread _ 8 p r w before after
      (simp (le-ltb (length (take (3 * p.count) w)) 48 (omega (arith, rows_length p w before ready places)))) (omega arith) u

  pub add_row : (v : List ℕ) → p.count < 16 → v ≡ words_with w p.count c t d
      → LineDid (Row c t d) p (record { count = p.count + 1; spoiled = p.spoiled; line = p.line + 1; end = p.end }) w v before before
  unfolding step_of
  add_row v h e =
      let room : ltb (length (take (3 * p.count) w)) 48 ≡ true = lt-ltb (length (take (3 * p.count) w)) 48 (omega (arith, rows_length p w before ready places)) in
      subst (λ (y : Step). Did y 8 p (record { count = p.count + 1; spoiled = p.spoiled; line = p.line + 1; end = p.end }) w v before before)
      (sym (ap (λ (b : Bool). cond b (added (draft_of w p) c t d) (unread p.line (draft_of w p))) room)) record {
        wrote = wrote_none 1479 before p.end;
        table = rw (e, words_more w p.count c t d h places);
        few = omega arith;
        places = rw e (words_places w p.count c t d);
        line = refl;
        size = omega arith;
      }

pub ruleset add_cases = (add_full, add_row)

-- ---- `step`

module _ (x : Line) (p r : Progress) (w before after : List ℕ) where
  pub step_word : (k : ℕ) → x ≡ Word k → Unread p r before after → LineDid x p r w w before after
  unfolding step_of
  step_word k e u = rw e (did_unread _ 2 p r w before after refl (omega arith) u)

  pub step_call : (k : CallKind) → x ≡ Call k → Unread p r before after → LineDid x p r w w before after
  unfolding step_of
  step_call k e u = rw e (did_unread _ 2 p r w before after refl (omega arith) u)

  pub step_unreadable : x ≡ Unreadable → Unread p r before after → LineDid x p r w w before after
  unfolding step_of
  step_unreadable e u = rw e (did_unread _ 2 p r w before after refl (omega arith) u)

  pub step_empty : x ≡ Empty → Closed p w r before after → LineDid x p r w w before after
  unfolding step_of
  step_empty e u =
      rw e record {
        wrote = u.wrote;
        table = rw (u.count, u.spoiled);
        few = omega (arith, u.count);
        places = refl;
        line = u.line;
        size = omega (arith, u.wrote.place, u.short, u.count);
      }

  pub step_row : (v : List ℕ) (c t d : ℕ) → x ≡ Row c t d → LineDid (Row c t d) p r w v before after → LineDid x p r w v before after
  step_row v c t d e u = rw e u

pub ruleset step_cases = (step_word, step_call, step_unreadable, step_empty, step_row)

-- ---- `finish`

module _ (p : Progress) (w before : List ℕ) (ready : Ready p before) (places : length w ≡ 48) where
  pub finish_none : p.count ≡ 0 → p.spoiled ≡ false → Finished (last_text (draft_of w p)) p before before p.end
  finish_none z e =
      let none : ltb 0 (length (take (3 * p.count) w)) ≡ false = le-ltb 0 (length (take (3 * p.count) w)) (omega (arith, rows_length p w before ready places)) in
      let is : last_text (draft_of w p) ≡ [] = simp (e, none) in
      subst (λ (t : List ℕ). Finished t p before before p.end) (sym is) record { wrote = wrote_none 1479 before p.end; short = omega arith }

  closes : begun (draft_of w p) ≡ true → (r : Progress) (after : List ℕ) → Closed p w r before after → Finished (last_text (draft_of w p)) p before after r.end
  closes b r after u =
      subst (λ (t : List ℕ). Finished t p before after r.end) (sym (ap (λ (x : Bool). cond x (closing (draft_of w p)) []) b))
      record { wrote = u.wrote; short = u.short }

  pub finish_spoiled : (r : Progress) (after : List ℕ) → p.spoiled ≡ true → Closed p w r before after → Finished (last_text (draft_of w p)) p before after r.end
  finish_spoiled r after e u = closes (simp e) r after u

  pub finish_rows : (r : Progress) (after : List ℕ) → (p.count ≡ 0 → ⊥) → Closed p w r before after → Finished (last_text (draft_of w p)) p before after r.end
  finish_rows r after n u =
      closes (simp (lt-ltb 0 (length (take (3 * p.count) w)) (omega (arith, rows_length p w before ready places)), or-true)) r after u

pub ruleset finish_cases = (finish_none, finish_spoiled, finish_rows)
