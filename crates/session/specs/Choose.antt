-- Which candidate a choice takes, and for how long (docs/SPECIFICATION.md §5.4). Assumes nothing.
use Rattle.std.specs.Prelude.{ℕ, ◌+◌, ◌*◌, ◌/◌, ◌%◌, min, Bool, not, ◌&&◌, cond, List, [], ◌∷◌, leb, ltb, eqb, drop}
use Rattle.bounded.specs.All.{all_to}
use Rattle.bounded.specs.Fold.{fold_to}
use Rattle.table.specs.Rows.{horizon}
use Rattle.session.specs.declared.Session.{Session}
use Rattle.session.specs.Reading.{idle, job_at, ahead}
use Rattle.session.specs.Order.{head_of, candidates, candidate_at}

-- how many words there are: each is below this
abbrev pub word_end : ℕ
word_end = 4294967296

-- the greatest multiple of n up to 4,294,967,296
unfoldable pub draw_limit : ℕ → ℕ
draw_limit n = word_end / n * n

-- a word at or above it is passed over (rejection sampling)
unfoldable pub passed_over : ℕ → ℕ → Bool
passed_over n w = leb (draw_limit n) w

-- the draw between n: the first word that is not passed over is taken, and gives its remainder; n where none is left
unfoldable pub draw : List ℕ → ℕ → ℕ
draw [] n = n
draw (w ∷ l) n = cond (passed_over n w) (draw l n) (w % n)

-- the words that a draw uses: those passed over, and the one taken
unfoldable pub draw_used : List ℕ → ℕ → ℕ
draw_used [] n = 0
draw_used (w ∷ l) n = 1 + cond (passed_over n w) (draw_used l n) 0

-- whether there is a draw between candidates: a job waits, and there are two candidates at least
unfoldable pub contested : Session → Bool
contested s = ltb (head_of s) s.count && leb 2 (candidates s)

-- whether a word decides between them: one is left
unfoldable pub drawn : Session → List ℕ → Bool
drawn s l = contested s && ltb (draw l (candidates s)) (candidates s)

-- what is chosen: by the draw; with one candidate, or no word left, the head; with nothing waiting, idle
unfoldable pub pick_of : Session → List ℕ → ℕ
pick_of s l =
    cond (drawn s l) (candidate_at s (draw l (candidates s))) (cond (ltb (head_of s) s.count) (head_of s) idle)

-- how long c may run at most: the lesser of its remaining ticks and the least budget of those that lose budget then.
-- Idle has no remaining ticks; with nothing waiting it gets 1,000,000, which is above every budget (`IdleRoom` in
-- crates/guarantee/specs/Exact.antt).
unfoldable pub room : Session → ℕ → ℕ
room s c =
    fold_to (λ m j. cond (ahead s c j) (min m (job_at s j).budget) m) (cond (eqb c idle) horizon (job_at s c).left) s.count

-- no waiting job is of strictly earlier deadline (no job waits, for idle)
unfoldable pub unopposed : Session → ℕ → Bool
unopposed s c = all_to (λ j. not (ahead s c j)) s.count

-- whether a word decides the span: one is left after the first u
unfoldable pub length_drawn : Session → List ℕ → ℕ → ℕ → Bool
length_drawn s l u c = not (unopposed s c) && ltb (draw (drop u l) (room s c)) (room s c)

-- the span of c: all that it may run, or 1 + the draw between so many where others lose budget and a word decides
unfoldable pub span_of : Session → List ℕ → ℕ → ℕ → ℕ
span_of s l u c = cond (length_drawn s l u c) (1 + draw (drop u l) (room s c)) (room s c)

-- the words used to pick, and in all
unfoldable pub pick_used : Session → List ℕ → ℕ
pick_used s l = cond (contested s) (draw_used l (candidates s)) 0

unfoldable pub used_of : Session → List ℕ → ℕ
used_of s l =
    let u = pick_used s l in
    u + cond (unopposed s (pick_of s l)) 0 (draw_used (drop u l) (room s (pick_of s l)))
