-- What the code of one line keeps, and its cases. Assumes nothing.
use Rattle.std.specs.Prelude.{ℕ, zero, suc, ◌+◌, ◌-◌, ◌≤◌, ◌<◌, ◌^◌, ◌≡◌, refl, Bool, ◌||◌, cond, List, [], ◌∷◌, ◌++◌, leb, eqb, length, take, drop, set}
use Rattle.std.proofs.Common.{sym, ◌∙◌, true≢false, add-one, arith, drop-drop, length-take-le, take-suc-set}
use Rattle.std.proofs.Math.Path.{ap}
use Rattle.std.proofs.Math.Bool.{true, false}
use Rattle.std.proofs.Math.Dec.{ltb}
use Rattle.std.proofs.Math.ListN.{length-set}
use Rattle.std.proofs.Math.Seq.{take-nil, length-slice, take-set-le}
use Rattle.std.proofs.lemmas.List.{drop-append-le}
use borrow.Author.Tests.{lt-ltb, le-ltb}
use Rattle.bounded.specs.Tests.{both}
use Rattle.decimal.specs.Buffer.{Wrote, wrote_none}
use Rattle.lines.specs.declared.read.Call.{Call}
use Rattle.lines.specs.declared.read.Call.TheVariants.{Arrive, Choose, Advance, Finish}
use Rattle.lines.specs.declared.read.Line.{Line}
use Rattle.lines.specs.declared.read.Line.TheVariants.{Row, Word, Call as CallLine, Empty, Unreadable}
use Rattle.lines.specs.Text.{line_text}
use Rattle.session.specs.declared.Session.{Session}
use Rattle.session.specs.declared.Answer.{Answer}
use Rattle.session.specs.declared.Outcome.{Outcome}
use Rattle.session.specs.declared.Numbers.{Numbers}
use Rattle.session.specs.Reading.{idle, clock_end, job_at}
use Rattle.session.specs.Sound.{sound}
use Rattle.session.specs.Draw.{used_within}
use Rattle.session.specs.Calls.{Shows, shown, arrive_in, arrive_of, choose_in, choose_of, advance_in, advance_of, finish_in, finish_of}
use Rattle.transcript.specs.declared.step.Play.{Play}
use Rattle.transcript.specs.Step.{Step, queue_limit, letter_of, call_of, answer_text, unread, step_of}

-- the words that wait, among all words queued so far
abbrev pub queue_of : List ℕ → Play → List ℕ
queue_of w p = drop p.from (take p.to w)

-- how many words a line queues
abbrev pub words_in : Line → ℕ
words_in (Row c t d) = 0
words_in (Word w) = 1
words_in (CallLine c) = 0
words_in Empty = 0
words_in Unreadable = 0

-- there is room for a line in the buffer, and the count of lines does not wrap
pub record Room (p : Play) (out : List ℕ) : Type 0 where
  pub room : p.end + 86 ≤ length out
  pub count : p.line < 2 ^ 32

pub record Ready (p : Play) (words out : List ℕ) : Type 0 where
  pub order : p.from ≤ p.to
  pub within : p.to ≤ length words
  pub room : p.end + 86 ≤ length out
  pub count : p.line < 2 ^ 32

-- a text was printed, of a call that used so many words
pub record Told (text : List ℕ) (used : ℕ) (p r : Play) (before after : List ℕ) : Type 0 where
  pub wrote : Wrote 86 text before after p.end r.end
  pub from : r.from ≡ p.from + used
  pub to : r.to ≡ p.to
  pub line : r.line ≡ p.line + 1
  pub over : r.over ≡ false

-- it was printed that the line is unreadable
pub record Unread (clock : ℕ) (p r : Play) (before after : List ℕ) : Type 0 where
  pub wrote : Wrote 86 (line_text clock 63 13 p.line 0) before after p.end r.end
  pub from : r.from ≡ p.from
  pub to : r.to ≡ p.to
  pub line : r.line ≡ p.line
  pub over : r.over ≡ true

-- the session s and r are what the step x, of a line that queues k words, leads to from p, with the words v in place of w
pub record Did (k : ℕ) (x : Step) (s : Session) (p r : Play) (w v before after : List ℕ) : Type 0 where
  pub wrote : Wrote 86 x.text before after p.end r.end
  pub session : s ≡ x.session
  pub queue : queue_of v r ≡ x.queue
  pub order : r.from ≤ r.to
  pub most : r.to ≤ p.to + k
  pub over : r.over ≡ x.ends
  pub line : r.over ≡ false → r.line ≡ p.line + 1
  pub words : length v ≡ length w
  -- the words that waited stay in their places
  pub waited : take p.to v ≡ take p.to w

-- a word's line, with any session that shows this clock
pub record Queued (clock w : ℕ) (p r : Play) (words words' before after : List ℕ) : Type 0 where
  pub did : (s : Session) → s.clock ≡ clock → Did 1 (step_of s (queue_of words p) p.line (Word w)) s p r words words' before after

-- a line that is no call, with any session that shows this clock
pub record Aside (clock : ℕ) (x : Line) (p r : Play) (words words' before after : List ℕ) : Type 0 where
  pub did : ((c : Call) → x ≡ CallLine c → ⊥) → (s : Session) → s.clock ≡ clock
      → Did (words_in x) (step_of s (queue_of words p) p.line x) s p r words words' before after

-- ---- printing

pub told_is : (clock letter : ℕ) (a : Answer) (n : Numbers) (d e : List ℕ) (at q : ℕ) → Shows (shown a) n
    → Wrote 86 (line_text clock letter n.number n.first n.second) d e at q → Wrote 86 (answer_text clock letter a) d e at q
unfolding answer_text
told_is clock letter a n d e at q s w = rw (s.number, s.first, s.second) at w

-- ---- the words that wait

module _ (w : List ℕ) (from to : ℕ) (order : from ≤ to) (within : to ≤ length w) where
  pub queue_length : length (drop from (take to w)) ≡ to - from
  queue_length = length-slice from to w within

  -- a word more
  pub queue_push : (x : ℕ) → to < length w → drop from (take (to + 1) (set w to x)) ≡ drop from (take to w) ++ x ∷ []
  queue_push x h =
      rw (add-one, take-suc-set w to x h)
      (drop-append-le from (take to w) (x ∷ []) (omega (arith, length-take-le to w within)))

-- a part of a slice
pub part_is : (f t : ℕ) (l : List ℕ) → take (t - f) (drop f l) ≡ drop f (take t l)
part_is zero t l = let e : t - 0 ≡ t = omega arith in ap (λ (n : ℕ). take n l) e
part_is (suc f) zero l = let e : 0 - suc f ≡ 0 = omega arith in rw e
part_is (suc f) (suc t) [] = take-nil (suc t - suc f)
part_is (suc f) (suc t) (x ∷ l) = let e : suc t - suc f ≡ t - f = omega arith in rw e (part_is f t l)

-- ---- unreadable lines

module _ (p r : Play) (words before after : List ℕ) (order : p.from ≤ p.to) (s : Session) (u : Unread s.clock p r before after) where
  pub did_unread : (k : ℕ) → Did k (unread s (queue_of words p) p.line) s p r words words before after
  did_unread k = record {
    wrote = u.wrote;
    session = refl;
    queue = rw (u.from, u.to);
    order = omega (arith, u.from, u.to);
    most = omega (arith, u.to);
    over = u.over;
    line = λ z. absurd (true≢false (sym u.over ∙ z));
    words = refl;
    waited = refl;
  }

-- ---- words

module _ (clock : ℕ) (p : Play) (w : ℕ) (words before : List ℕ) (ready : Ready p words before) where
  pub word_queued : p.to < length words → p.to - p.from < 1024
      → Queued clock w p (record { from = p.from; to = p.to + 1; line = p.line + 1; end = p.end; over = false })
      words (set words p.to w) before before
  unfolding step_of
  word_queued h k =
      let f : ltb (length (queue_of words p)) queue_limit ≡ true =
      lt-ltb (length (queue_of words p)) queue_limit (omega (arith, queue_length words p.from p.to ready.order ready.within)) in
      record {
        did = λ s e.
            rw f record {
              wrote = wrote_none 86 before p.end;
              session = refl;
              queue = queue_push words p.from p.to ready.order ready.within w h;
              order = omega (arith, ready.order);
              most = omega arith;
              over = refl;
              line = λ z. refl;
              words = length-set words p.to w;
              waited = take-set-le p.to words p.to w (omega arith);
            };
      }

  pub word_full : (r : Play) (after : List ℕ) → 1024 ≤ p.to - p.from → Unread clock p r before after
      → Queued clock w p r words words before after
  unfolding step_of
  word_full r after k u =
      let f : ltb (length (queue_of words p)) queue_limit ≡ false =
      le-ltb (length (queue_of words p)) queue_limit (omega (arith, queue_length words p.from p.to ready.order ready.within)) in
      record { did = λ s e. rw f (did_unread p r words before after ready.order s (rw e u) 1) }

pub ruleset word_cases = (word_queued, word_full)

-- ---- the calls

module _ (s : Session) (c : Call) (q : List ℕ) (h : sound s ≡ true) (o : Outcome) where
  pub call_arrive : (row k : ℕ) → c ≡ Arrive row → k ≡ row → o ≡ arrive_in s k → o ≡ call_of s q c
  unfolding call_of arrive_of
  call_arrive row k e f g = g ∙ rw (e, ← f) (sym (simp h))

  pub call_choose : c ≡ Choose → o ≡ choose_in s q → o ≡ call_of s q c
  unfolding call_of choose_of
  call_choose e g = g ∙ rw e (sym (simp h))

  pub call_advance : (n k : ℕ) → c ≡ Advance n → k ≡ n → o ≡ advance_in s k → o ≡ call_of s q c
  unfolding call_of advance_of
  call_advance n k e f g = g ∙ rw (e, ← f) (sym (simp h))

  pub call_finish : c ≡ Finish → o ≡ finish_in s → o ≡ call_of s q c
  unfolding call_of finish_of
  call_finish e g = g ∙ rw e (sym (simp h))

pub ruleset call_cases = (call_arrive, call_choose, call_advance, call_finish)

none_used : (b : Bool) (x y : Outcome) → x.used ≡ 0 → y.used ≡ 0 → (cond b x y).used ≡ 0
none_used true x y e f = e
none_used false x y e f = f

-- no more words are used than there are; only a choice uses any
pub call_used : (s : Session) (q : List ℕ) (c : Call) → (call_of s q c).used ≤ length q
unfolding call_of arrive_of arrive_in choose_of choose_in advance_of advance_in finish_of finish_in
call_used s q (Arrive row) =
    let z : (arrive_of s row).used ≡ 0 =
    none_used (sound s) _ _ (none_used (leb s.count row) _ _ refl (none_used (ltb s.clock (job_at s row).next) _ _ refl refl)) refl in
    omega (arith, z)
call_used s q Choose =
    both (sound s) (λ h. both (ltb 0 s.span) (λ e. simp (h, e) (omega arith)) (λ e. simp (h, e) (used_within s q))) (λ h. simp h (omega arith))
call_used s q (Advance n) =
    let z : (advance_of s n).used ≡ 0 =
    none_used (sound s) _ _
    (none_used (eqb s.span 0) _ _ refl
    (none_used (eqb n 0 || ltb s.span n) _ _ refl (none_used (ltb clock_end (s.clock + n)) _ _ refl refl)))
    refl in
    omega (arith, z)
call_used s q Finish =
    let z : (finish_of s).used ≡ 0 =
    none_used (sound s) _ _ (none_used (eqb s.span 0) _ _ refl (none_used (eqb s.chosen idle) _ _ refl refl)) refl in
    omega (arith, z)

module _ (s : Session) (c : Call) (p : Play) (l words before : List ℕ) (ready : Ready p words before) (e : l ≡ queue_of words p) (o : Outcome)
    (f : o ≡ call_of s l c) where
  pub used_order : p.from + o.used ≤ p.to
  used_order =
      omega (arith, ready.order, ap length e, queue_length words p.from p.to ready.order ready.within, call_used s l c, ap (λ (z : Outcome). z.used) f)

  pub did_call : (letter : ℕ) (r : Play) (after : List ℕ) → letter ≡ letter_of c → Told (answer_text o.session.clock letter o.answer) o.used p r before after
      → Did 0 (step_of s (queue_of words p) p.line (CallLine c)) o.session p r words words before after
  unfolding step_of
  did_call letter r after g t =
      rw (← e, ← f, ← g) record {
        wrote = t.wrote;
        session = refl;
        queue = rw (t.from, t.to) (sym (drop-drop o.used p.from (take p.to words))) ∙ ap (drop o.used) (sym e);
        order = omega (arith, used_order, t.from, t.to);
        most = omega (arith, t.to);
        over = t.over;
        line = λ z. t.line;
        words = refl;
        waited = refl;
      }

-- ---- any line

pub step_tells : (s : Session) (c : Call) (p : Play) (l words before : List ℕ) → Ready p words before → l ≡ queue_of words p → (o : Outcome) → o ≡ call_of s l c
    → Room p before × (p.from + o.used ≤ p.to)
step_tells s c p l words before ready e o f =
    (record { room = ready.room; count = ready.count }, used_order s c p l words before ready e o f)

module _ (s : Session) (p : Play) (x : Line) (words before : List ℕ) (ready : Ready p words before) where
  -- the line did what its step says
  abbrev StepDid : Session → Play → List ℕ → List ℕ → Type 0
  StepDid s' r words' after = Did (words_in x) (step_of s (queue_of words p) p.line x) s' p r words words' before after

  pub step_aside : (r : Play) (words' after : List ℕ) → ((c : Call) → x ≡ CallLine c → ⊥) → Aside s.clock x p r words words' before after → StepDid s r words' after
  step_aside r words' after e q = q.did e s refl

  pub step_call : (c : Call) (l : List ℕ) (o : Outcome) (letter : ℕ) (r : Play) (after : List ℕ) → x ≡ CallLine c → o ≡ call_of s l c → l ≡ queue_of words p
      → letter ≡ letter_of c → Told (answer_text o.session.clock letter o.answer) o.used p r before after → StepDid o.session r words after
  step_call c l o letter r after e f g k u = rw e (did_call s c p l words before ready g o f letter r after k u)

pub ruleset step_laws = (step_aside, step_call)

-- ---- any line that is no call

module _ (clock : ℕ) (p : Play) (x : Line) (words before : List ℕ) (ready : Ready p words before) where
  abbrev AsideDid : Play → List ℕ → List ℕ → Type 0
  AsideDid r words' after = Aside clock x p r words words' before after

  pub aside_place : (w : ℕ) → x ≡ Word w → p.to + words_in x ≤ length words → p.to < length words
  aside_place w e h = omega (arith, ap words_in e)

  pub aside_word : (w : ℕ) (r : Play) (words' after : List ℕ) → x ≡ Word w → Queued clock w p r words words' before after → AsideDid r words' after
  aside_word w r words' after e q = rw e (record { did = λ z s f. q.did s f })

  pub aside_call : (c : Call) → x ≡ CallLine c → AsideDid p words before
  aside_call c e = record { did = λ z. absurd (z c e) }

  module _ (r : Play) (after : List ℕ) (u : Unread clock p r before after) where
    pub aside_row : (c t d : ℕ) → x ≡ Row c t d → AsideDid r words after
    unfolding step_of
    aside_row c t d e = rw e (record { did = λ z s f. did_unread p r words before after ready.order s (rw f u) 0 })

    pub aside_empty : x ≡ Empty → AsideDid r words after
    unfolding step_of
    aside_empty e = rw e (record { did = λ z s f. did_unread p r words before after ready.order s (rw f u) 0 })

    pub aside_unreadable : x ≡ Unreadable → AsideDid r words after
    unfolding step_of
    aside_unreadable e = rw e (record { did = λ z s f. did_unread p r words before after ready.order s (rw f u) 0 })

pub ruleset aside_laws = (aside_place, aside_word, aside_call, aside_row, aside_empty, aside_unreadable)
