-- What a draw gives, between candidates and between the lengths of a span (docs/SPECIFICATION.md §5.4, Draw). Definitions
-- only. Assumes nothing.
use Rattle.std.specs.Prelude.{ℕ, zero, suc, ◌+◌, ◌*◌, ◌/◌, ◌%◌, ◌^◌, ◌≤◌, ◌<◌, ◌≡◌, true, false, ◌&&◌, List, [], ◌∷◌, ◌++◌, eqb, length}
use Rattle.bounded.specs.Tests.{gate}
use Rattle.bounded.specs.Sum.{sum_to}
use Rattle.session.specs.declared.Session.{Session}
use Rattle.session.specs.Reading.{idle}
use Rattle.session.specs.Order.{before, head_of, candidate, idles, candidates, position, row_with, candidate_at}
use Rattle.session.specs.Choose.{word_end, draw_limit, draw, draw_used, contested, drawn, pick_of, room, unopposed, length_drawn, span_of}

-- ---- a draw between n

-- m is the greatest multiple of n up to 4,294,967,296
pub record GreatestMultiple (n m : ℕ) : Type 0 where
  pub multiple : (q : ℕ) × (m ≡ q * n)
  pub within : m ≤ word_end
  pub greatest : (q : ℕ) → q * n ≤ word_end → q * n ≤ m

-- THE LIMIT IS THAT: a word at or above it is passed over
abbrev pub Limit : Type 0
Limit = (n : ℕ) → GreatestMultiple n (draw_limit n)

-- every word of l is at or above the limit of n
abbrev pub AllPassed : ℕ → List ℕ → Type 0
AllPassed n [] = Unit
AllPassed n (w ∷ l) = (draw_limit n ≤ w) × AllPassed n l

-- the first word below the limit decides: the words before it and the word itself are used
pub record FirstTaken (n : ℕ) : Type 0 where
  pub word : (p : List ℕ) (w : ℕ) (l : List ℕ) → AllPassed n p → w < draw_limit n
      → (draw (p ++ w ∷ l) n ≡ w % n) × (draw_used (p ++ w ∷ l) n ≡ length p + 1)
  -- where none is left, n stands for that, and all are used
  pub none : (p : List ℕ) → AllPassed n p → (draw p n ≡ n) × (draw_used p n ≡ length p)

-- THE FIRST WORD BELOW THE LIMIT DECIDES, whatever comes before and after it
abbrev pub Taken : Type 0
Taken = (n : ℕ) → FirstTaken n

-- ---- how many words draw each number

-- how many lists of x words have f, which is 1 or 0 of each
unfoldable pub lists_with : ℕ → (List ℕ → ℕ) → ℕ
lists_with zero f = f []
lists_with (suc x) f = sum_to (λ w. lists_with x (λ l. f (w ∷ l))) word_end

-- f is 1 of one list in n, in a draw between n
pub record OneIn (n : ℕ) (f : List ℕ → ℕ) : Type 0 where
  -- of all words: of 4,294,967,296 / n, rounded down
  pub words : sum_to (λ w. f (w ∷ [])) word_end ≡ word_end / n
  -- of all lists of x words: n times as many are all lists but those of which every word is passed over
  pub lists : (x : ℕ) → n * lists_with x f + (word_end % n) ^ x ≡ word_end ^ x

-- 1 where the words l draw k between n; with n for k, where every one is passed over
abbrev pub draws : ℕ → ℕ → List ℕ → ℕ
draws n k l = gate (eqb (draw l n) k) 1

-- EVERY NUMBER IS EQUALLY LIKELY: as many words draw each k below n, and the rest of all words are passed over
pub record Even (n : ℕ) : Type 0 where
  pub each : (k : ℕ) → k < n → OneIn n (draws n k)
  pub rest : sum_to (λ w. draws n n (w ∷ [])) word_end ≡ word_end % n

abbrev pub Uniform : Type 0
Uniform = (n : ℕ) → Even n

-- ---- the draw between candidates

-- how many rows are candidates
abbrev pub candidate_rows : Session → ℕ
candidate_rows s = sum_to (λ i. gate (candidate s i) 1) s.count

-- c is candidate number k, from 0: a row with k candidates before it in the order of jobs, or idle, which comes after
-- all the rows (§5.4, Candidate)
pub data Numbered (s : Session) (k : ℕ) : ℕ → Type 0 where
  row : (r : ℕ) → r < s.count → candidate s r ≡ true → position s r ≡ k → Numbered s k r
  last : idles s ≡ true → k ≡ candidate_rows s → Numbered s k idle

-- the candidates, n in all, are numbered 0 to n - 1
pub record Numbering (s : Session) : Type 0 where
  -- a row has a lower number than each row that it is before
  pub ordered : (i j : ℕ) → i < s.count → candidate s i ≡ true → before s i j ≡ true → position s i < position s j
  -- the rows' numbers are below how many they are
  pub below : (i : ℕ) → i < s.count → candidate s i ≡ true → position s i < candidate_rows s
  -- no two rows have the same number
  pub apart : (i j : ℕ) → i < s.count → j < s.count → candidate s i ≡ true → candidate s j ≡ true
      → position s i ≡ position s j → i ≡ j
  -- a row is found for each number below how many they are, and for no other
  pub found : (k : ℕ) → k < candidate_rows s → row_with s k < s.count
  pub none : (k : ℕ) → candidate_rows s ≤ k → row_with s k ≡ s.count
  -- so each k below n is a candidate's number, and `candidate_at` gives that candidate
  pub each : (k : ℕ) → k < candidates s → Numbered s k (candidate_at s k)
  -- no other k is one, and no two candidates have the same
  pub most : {k c : ℕ} → Numbered s k c → k < candidates s
  pub one : {k c d : ℕ} → Numbered s k c → Numbered s k d → c ≡ d
  -- the head, if a job is waiting, has number 0
  pub head : head_of s < s.count → Numbered s 0 (head_of s)

-- where a word decides between the candidates, the one with the number drawn is chosen
abbrev pub Drawn : Session → List ℕ → Type 0
Drawn s l = drawn s l ≡ true → Numbered s (draw l (candidates s)) (pick_of s l)

-- 1 where the words l choose c, and one of them decides
abbrev pub chooses : Session → ℕ → List ℕ → ℕ
chooses s c l = gate (drawn s l && eqb (pick_of s l) c) 1

-- EVERY CANDIDATE IS EQUALLY LIKELY, in every session in which there are two at least; c is candidate number k. Rows are below
-- 16, which is idle.
abbrev pub UniformPick : Type 0
UniformPick =
    (s : Session) → s.count ≤ 16 → contested s ≡ true → (k c : ℕ) → Numbered s k c → OneIn (candidates s) (chooses s c)

-- ---- the draw between the lengths of a span

-- 1 where the words l, after the words p that were used, give c the span x, and one of them decides
abbrev pub lasts : Session → List ℕ → ℕ → ℕ → List ℕ → ℕ
lasts s p c x l = gate (length_drawn s (p ++ l) (length p) c && eqb (span_of s (p ++ l) (length p) c) x) 1

-- EVERY LENGTH IS EQUALLY LIKELY, in every session; others lose budget while c runs, and it may run for x ticks
abbrev pub UniformSpan : Type 0
UniformSpan =
    (s : Session) (p : List ℕ) (c x : ℕ) → unopposed s c ≡ false → 1 ≤ x → x ≤ room s c → OneIn (room s c) (lasts s p c x)

-- a word is divided by 2 at least where it decides between candidates, and by 1 at least where it decides the span
pub record Divisors (s : Session) (l : List ℕ) : Type 0 where
  pub pick : contested s ≡ true → 2 ≤ candidates s
  pub span : 1 ≤ room s (pick_of s l)
