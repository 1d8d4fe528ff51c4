-- What a call leads to, whatever is printed of it: for `planner`, which prints no answers. Assumes nothing.
use Rattle.std.specs.Prelude.{ℕ, ◌+◌, ◌≤◌, ◌≡◌, refl, false, List, length, take, drop}
use Rattle.std.proofs.Common.{sym, ap, ◌∙◌, arith, drop-drop}
use Rattle.decimal.specs.Buffer.{Wrote}
use Rattle.lines.specs.declared.read.Call.{Call}
use Rattle.lines.specs.declared.read.Line.TheVariants.{Call as CallLine}
use Rattle.lines.specs.Text.{line_text}
use Rattle.session.specs.declared.Session.{Session}
use Rattle.session.specs.declared.Answer.{Answer}
use Rattle.session.specs.declared.Outcome.{Outcome}
use Rattle.session.specs.declared.Numbers.{Numbers}
use Rattle.session.specs.Calls.{Shows, shown}
use Rattle.transcript.specs.declared.step.Play.{Play}
use Rattle.transcript.specs.Step.{Step, call_of, answer_text, step_of}
use Rattle.transcript.specs.Play.{queue_of, Ready, Told, Did, told_is, used_order}

-- a call used so many words
pub record Passes (used : ℕ) (p r : Play) : Type 0 where
  pub from : r.from ≡ p.from + used
  pub to : r.to ≡ p.to
  pub line : r.line ≡ p.line + 1
  pub over : r.over ≡ false

abbrev pub passed_by : Play → ℕ → ℕ → Play
passed_by p used end = record { from = p.from + used; to = p.to; line = p.line + 1; end = end; over = false }

-- the session s and r are what the step x, of a line that queues k words, leads to from p, with the words v in place of w
pub record Moved (k : ℕ) (x : Step) (s : Session) (p r : Play) (w v : List ℕ) : Type 0 where
  pub session : s ≡ x.session
  pub queue : queue_of v r ≡ x.queue
  pub order : r.from ≤ r.to
  pub most : r.to ≤ p.to + k
  pub over : r.over ≡ x.ends
  pub line : r.over ≡ false → r.line ≡ p.line + 1
  pub words : length v ≡ length w
  -- the words that waited stay in their places
  pub waited : take p.to v ≡ take p.to w

pub did_moved : {k : ℕ} {x : Step} {s : Session} {p r : Play} {w v before after : List ℕ} → Did k x s p r w v before after → Moved k x s p r w v
did_moved d = record {
  session = d.session;
  queue = d.queue;
  order = d.order;
  most = d.most;
  over = d.over;
  line = d.line;
  words = d.words;
  waited = d.waited;
}

-- ---- `tell`

pub told_by : (clock letter : ℕ) (a : Answer) (n : Numbers) (used end : ℕ) (p r : Play) (d e : List ℕ) → Shows (shown a) n
    → Wrote 86 (line_text clock letter n.number n.first n.second) d e p.end end → r ≡ passed_by p used end
    → Told (answer_text clock letter a) used p r d e
told_by clock letter a n used end p r d e s w h =
    rw h record { wrote = told_is clock letter a n d e p.end end s w; from = refl; to = refl; line = refl; over = refl }

-- ---- the calls

module _ (s : Session) (c : Call) (p : Play) (l words before : List ℕ) (ready : Ready p words before) (e : l ≡ queue_of words p) (o : Outcome)
    (f : o ≡ call_of s l c) where
  -- the words that it used leave the queue
  pub call_moves : (r : Play) → Passes o.used p r → Moved 0 (step_of s (queue_of words p) p.line (CallLine c)) o.session p r words words
  unfolding step_of
  call_moves r t =
      rw (← e, ← f) record {
        session = refl;
        queue = rw (t.from, t.to) (sym (drop-drop o.used p.from (take p.to words))) ∙ ap (drop o.used) (sym e);
        order = omega (arith, used_order s c p l words before ready e o f, t.from, t.to);
        most = omega (arith, t.to);
        over = t.over;
        line = λ z. t.line;
        words = refl;
        waited = refl;
      }
