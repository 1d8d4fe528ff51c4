-- 256 ticks of demand or request at once: each row marks the ticks that its jobs fall on, and the sum over the marks follows
-- the slack (docs/SPECIFICATION.md §2.4, §3.1). Assumes nothing.
use Prim.Native.Nat.{ℕ, zero, suc, ◌+◌, ◌-◌, ◌*◌, ◌≤◌, ◌<◌}
use Rattle.std.proofs.Math.Path.{◌≡◌, refl, sym, ap}
use Rattle.std.proofs.Common.{◌∙◌, mul-le-mul_left, length-set, get_or-set_same, Fits}
use Rattle.std.specs.Prelude.{Bool, true, false, cond, List, length, set, replicate}
use Rattle.std.proofs.Math.Logic.{dite}
use native.Mathlib.Omega.{arith}
use Rattle.std.proofs.Math.Nat.{mul-le-mul}
use Rattle.std.proofs.Math.Decide.{dec_le, dec_lt}
use Rattle.std.proofs.Math.ListN.{get_or, get_or-replicate, length-replicate, get_or-eq_default}
use Rattle.std.proofs.Math.Seq.{get_or-set_other}
use Rattle.std.specs.Int.{w32, w64}
use Rattle.bounded.specs.Quotient.{ceil_div, ceil_after, ceil_least}
use Rattle.bounded.proofs.QuotientLaws.{ceil_more, ceil_mono}
use Rattle.bounded.specs.Sum.{sum_to, sum_eq, sum_add, sum_zero, sum_eq_at, sum_term, sum_upto, sum_next}
use Rattle.edf.specs.Jobs.{jobs_by_lem}
use Rattle.edf.proofs.JobsLaws.{jobs_after, jobs_mono, jobs_room}
use Rattle.edf.specs.Demand.{TaskSet, demand, request}
use Rattle.table.specs.declared.inverse.Prepared.{Prepared}
use Rattle.table.specs.Rows.{Fit}
use Rattle.bounded.specs.Within.{Within}
use Rattle.table.specs.Inverse.{Ready, Tame, tame_of}
use Rattle.table.specs.Demand.{jobs_fits}
use Rattle.table.specs.Request.{periods_fits}

-- how many of the places a, a + T, a + 2 T, .. are below k
unfoldable pub hits : ℕ → ℕ → ℕ → ℕ
hits a T k = ceil_div (k - a) T

-- the ticks up to t since the last deadline that a row can have
unfoldable pub since_by : ℕ → ℕ → ℕ → ℕ
since_by D T t = t + (T - D) - T * jobs_by_lem D T t

-- the ticks from r on until a row begins a period
unfoldable pub until_by : ℕ → ℕ → ℕ
until_by T r = T * ceil_div r T - r

abbrev pub place_by : ℕ → ℕ → ℕ → Bool → ℕ
place_by D T t back = cond back (since_by D T t) (until_by T t)

-- what the first n rows give on the k ticks from t on
unfoldable pub given_to : TaskSet → ℕ → Bool → ℕ → ℕ → ℕ
given_to τ t back k n = sum_to (λ i. τ.C i * hits (place_by (τ.D i) (τ.T i) t back) (τ.T i) k) n

-- what is marked on the first k places
unfoldable pub marked_to : List ℕ → ℕ → ℕ
marked_to w k = sum_to (λ i. get_or w i 0) k

-- steps lag behind the sieve by n ticks; if these are 256, the last step was one that the sieve can begin with
pub record Lag (step n : ℕ) : Type 0 where
  pub few : n ≤ 256
  pub small : 256 ≤ n → step < 256

pub lag_small : (step n : ℕ) → Lag step n → 256 ≤ n → step < 256
lag_small step n s l = s.small l

-- ---- the places of one row

module _ (a T : ℕ) (h : 1 ≤ T) where
  hits_least : (k m : ℕ) → k ≤ a + m * T → hits a T k ≤ m
  unfolding hits
  hits_least k m l = ceil_least (k - a) T m h (omega arith)

  hits_more : (k m : ℕ) → a + m * T < k → m < hits a T k
  unfolding hits
  hits_more k m l = ceil_more (k - a) T m h (omega arith)

  hits_is : (k m : ℕ) → k ≤ a + m * T → ((n : ℕ) → n + 1 ≡ m → a + n * T < k) → hits a T k ≡ m
  hits_is k zero l f = omega (arith, hits_least k 0 l)
  hits_is k (suc n) l f = omega (arith, hits_least k (suc n) l, hits_more k n (f n (omega arith)))

  hits_first : hits a T a ≡ 0
  hits_first = omega (arith, hits_least a 0 (omega arith))

  hits_few : (k : ℕ) → hits a T k ≤ k
  hits_few k = hits_least k k (omega (arith, mul-le-mul_left {m = 1} {n = T} k h))

  -- after a place x that is one of them, the next is x + T
  module _ (x : ℕ) (e : x ≡ a + hits a T x * T) where
    hits_next : (k : ℕ) → x < k → k ≤ x + T → hits a T k ≡ hits a T x + 1
    hits_next k l m = omega (arith, hits_least k (hits a T x + 1) (omega arith), hits_more k (hits a T x) (omega arith))

    hits_place : x + T ≡ a + hits a T (x + T) * T
    hits_place = rw (hits_next (x + T) (omega arith) (omega arith)) (omega arith)

-- ---- what a row's places count: deadlines passed on the way back, and periods begun on the way forth

times : (c a b d : ℕ) → a + b ≡ d → c * a + c * b ≡ c * d
times c a b d e = omega (arith, ap (λ (z : ℕ). c * z) e)

module _ (D T : ℕ) (d : 1 ≤ D) (l : D ≤ T) where
  since_hits : (t k : ℕ) → k ≤ t → jobs_by_lem D T (t - k) + hits (since_by D T t) T k ≡ jobs_by_lem D T t
  unfolding since_by
  since_hits t k within =
      omega (
        arith,
        passed,
        hits_is a T (omega arith) k m (omega (arith, first, scaled, jobs_room D T (t - k) (omega arith) l))
            (λ n e. omega (arith, first, scaled, times T n 1 m e, jobs_after D T (t - k) (omega arith))),
      )
    where
      j : ℕ
      j = jobs_by_lem D T t

      i : ℕ
      i = jobs_by_lem D T (t - k)

      a : ℕ
      a = since_by D T t

      m : ℕ
      m = j - i

      first : a + T * j ≡ t + T - D
      first = omega (arith, jobs_room D T t (omega arith) l)

      passed : i + m ≡ j
      passed = omega (arith, jobs_mono D T (t - k) t (omega arith) (omega arith))

      scaled : T * i + T * m ≡ T * j
      scaled = times T i m j passed

  until_hits : (r k : ℕ) → ceil_div r T + hits (until_by T r) T k ≡ ceil_div (r + k) T
  unfolding until_by
  until_hits r k =
      omega (
        arith,
        begun,
        hits_is a T (omega arith) k m (omega (arith, first, scaled, ceil_after (r + k) T (omega arith)))
            (λ n e. dite (dec_lt (a + n * T) k) (λ p. p)
            (λ p. absurd (omega (arith, begun, ceil_least (r + k) T (c + n) (omega arith) (omega (arith, first)))))),
      )
    where
      c : ℕ
      c = ceil_div r T

      a : ℕ
      a = until_by T r

      m : ℕ
      m = ceil_div (r + k) T - c

      first : a + r ≡ T * c
      first = omega (arith, ceil_after r T (omega arith))

      begun : c + m ≡ ceil_div (r + k) T
      begun = omega (arith, ceil_mono r (r + k) T (omega arith) (omega arith))

      scaled : T * c + T * m ≡ T * ceil_div (r + k) T
      scaled = times T c m _ begun

-- ---- all rows

module _ (τ : TaskSet) (fit : Fit τ) where
  pub given_back : (t k : ℕ) → k ≤ t → demand τ (t - k) + given_to τ t true k τ.rows ≡ demand τ t
  unfolding demand given_to
  given_back t k l =
      sym (sum_add (λ i. τ.C i * jobs_by_lem (τ.D i) (τ.T i) (t - k)) (λ i. τ.C i * hits (place_by (τ.D i) (τ.T i) t true) (τ.T i) k) τ.rows)
      ∙ sum_eq _ _ τ.rows
      (λ i o. let u = fit.row i o in
      times (τ.C i) _ _ _ (since_hits (τ.D i) (τ.T i) (omega arith) (omega arith) t k l))

  pub given_forth : (r k : ℕ) → request τ (r + k) ≡ request τ r + given_to τ r false k τ.rows
  unfolding request given_to
  given_forth r k =
      sum_eq _ _ τ.rows
      (λ i o. let u = fit.row i o in
      sym (times (τ.C i) _ _ _ (until_hits (τ.D i) (τ.T i) (omega arith) (omega arith) r k)))
      ∙ sum_add (λ i. τ.C i * ceil_div r (τ.T i)) (λ i. τ.C i * hits (place_by (τ.D i) (τ.T i) r false) (τ.T i) k) τ.rows

-- ---- the loop that marks one row: the places below x are done

pub record Markable (v : List ℕ) (T c : ℕ) : Type 0 where
  pub long : length v ≡ 256
  pub some : 1 ≤ T
  pub apart : T ≤ 1000000
  pub room : marked_to v 256 + 256 * c ≤ 4096000000

pub record Marked (v w : List ℕ) (a T c : ℕ) : Type 0 where
  pub long : length w ≡ 256
  pub are : (k : ℕ) → k ≤ 256 → marked_to w k ≡ marked_to v k + c * hits a T k

pub record Marking (v w : List ℕ) (a T c x : ℕ) : Type 0 where
  pub long : length w ≡ 256
  pub place : x ≡ a + hits a T x * T
  pub done : (k : ℕ) → k ≤ x → k ≤ 256 → marked_to w k ≡ marked_to v k + c * hits a T k
  pub rest : (k : ℕ) → x < k → k ≤ 256 → marked_to w k ≡ marked_to v k + c * hits a T x

-- a place of w has b: the sum up to k has it too, from there on
module _ (w : List ℕ) (x b : ℕ) where
  set_before : (k : ℕ) → k ≤ x → marked_to (set w x b) k ≡ marked_to w k
  unfolding marked_to
  set_before k l = sum_eq _ _ k (λ i o. get_or-set_other w x i b 0 (λ e. omega arith))

  set_after : (k : ℕ) → x < k → x < length w → marked_to (set w x b) k + get_or w x 0 ≡ marked_to w k + b
  unfolding marked_to
  set_after k l o =
      sum_eq_at (λ i. get_or (set w x b) i 0) (λ i. get_or w i 0) k x l (λ i p ne. get_or-set_other w x i b 0 ne)
      ∙ ap (λ (z : ℕ). marked_to w k + z) (get_or-set_same w x b 0 o)

  marked_term : (k : ℕ) → x < k → get_or w x 0 ≤ marked_to w k
  unfolding marked_to
  marked_term k l = sum_term (λ i. get_or w i 0) k x l

module _ (v : List ℕ) (a T c : ℕ) (m : Markable v T c) where
  pub marking_start : Marking v v a T c a
  marking_start = record {
    long = m.long;
    place = rw (hits_first a T m.some) (omega arith);
    done = λ k l h. let z = hits_least a T m.some k 0 (omega arith) in
        let e : hits a T k ≡ 0 = omega arith in rw e (omega arith);
    rest = λ k l h. rw (hits_first a T m.some) (omega arith);
  }

  module _ (w : List ℕ) (x : ℕ) (g : Marking v w a T c x) (l : x < 256) where
    marking_at : x < length w
    marking_at = omega (arith, g.long)

    marking_few : get_or w x 0 + c ≤ 4096000000
    marking_few =
        omega (
          arith,
          marked_term w x 0 256 l,
          g.rest 256 l (omega arith),
          m.room,
          mul-le-mul_left {m = hits a T x + 1} {n = 256} c (omega (arith, hits_few a T m.some x)),
        )

    pub marking_fits : Fits w32 (get_or w x 0 + c)
    marking_fits = record { fits = omega (arith, marking_few) }

    pub marking_next : (y : ℕ) → y ≡ get_or w x 0 + c → Marking v (set w x y) a T c (x + T)
    marking_next y e = record {
      long = length-set w x y ∙ g.long;
      place = hits_place a T m.some x g.place;
      done = λ k o h. dite (dec_le k x)
          (λ p. set_before w x y k p ∙ g.done k p h)
          (λ p. omega (
            arith,
            e,
            set_after w x y k (omega arith) marking_at,
            g.rest k (omega arith) h,
            ap (λ (z : ℕ). c * z) (hits_next a T m.some x g.place k (omega arith) o),
          ));
      rest = λ k o h. omega (
        arith,
        e,
        set_after w x y k (omega arith) marking_at,
        g.rest k (omega arith) h,
        ap (λ (z : ℕ). c * z) (hits_next a T m.some x g.place (x + T) (omega (arith, m.some)) (omega arith)),
      );
    }

  pub marking_done : (w : List ℕ) (x : ℕ) → Marking v w a T c x → 256 ≤ x → Marked v w a T c
  marking_done w x g l = record { long = g.long; are = λ k h. g.done k (omega arith) h }

pub ruleset marking_laws = (marking_start, marking_fits, marking_next, marking_done)

-- ---- the loop over the marks: how long the slack s lasts

pub record Bounded (w : List ℕ) : Type 0 where
  pub long : length w ≡ 256
  pub room : marked_to w 256 ≤ 4096000000

pub record Lasts (w : List ℕ) (s r : ℕ) : Type 0 where
  pub few : r ≤ 256
  pub past : s < r
  pub clear : (k : ℕ) → k < r → k ≤ s + marked_to w k

-- of two ticks, the k-th and the next, it lasts r; m is marked on the k-th
pub data OfTwo (sum k m : ℕ) : ℕ → Type 0 where
  neither : sum < k → OfTwo sum k m 0
  first : k ≤ sum → sum + m < k + 1 → OfTwo sum k m 1
  second : k ≤ sum → k < sum + m → OfTwo sum k m 2

module _ (sum k m : ℕ) where
  pub of_two_more : k < sum → OfTwo sum k m 2
  of_two_more l = second (omega arith) (omega arith)

  pub of_two_less : sum < k → OfTwo sum k m 0
  of_two_less l = neither l

  pub of_two_bare : sum ≤ k → k ≤ sum → m ≡ 0 → OfTwo sum k m 1
  of_two_bare l h e = first h (omega arith)

  pub of_two_marked : k ≤ sum → (m ≡ 0 → ⊥) → OfTwo sum k m 2
  of_two_marked h ne = second h (omega arith)

pub ruleset of_two_cases = (of_two_more, of_two_less, of_two_bare, of_two_marked)

-- it has lasted 2 j ticks
pub record Lasting (w : List ℕ) (s j sum : ℕ) : Type 0 where
  pub few : j ≤ 128
  pub is : sum ≡ s + marked_to w (2 * j)
  pub clear : (x : ℕ) → x < 2 * j → x ≤ s + marked_to w x

module _ (w : List ℕ) (s : ℕ) (b : Bounded w) (small : s < 256) where
  pub lasting_start : Lasting w s 0 s
  unfolding marked_to sum_to
  lasting_start = record { few = omega arith; is = omega arith; clear = λ x l. absurd (omega arith) }

  module _ (j sum : ℕ) (g : Lasting w s j sum) where
    pub lasting_end : 128 ≤ j → Lasts w s 256
    lasting_end l = record { few = omega arith; past = small; clear = λ x o. g.clear x (omega arith) }

    module _ (l : j < 128) (m : ℕ) (e : m ≡ get_or w (2 * j) 0) where
      lasting_first : s + marked_to w (2 * j + 1) ≡ sum + m
      unfolding marked_to
      lasting_first = omega (arith, g.is, sum_next (λ i. get_or w i 0) (2 * j) (marked_to w (2 * j)) m refl e)

      clear_to : (x : ℕ) → x < 2 * j + 1 → 2 * j ≤ sum → x ≤ s + marked_to w x
      clear_to x o h = dite (dec_lt x (2 * j)) (λ p. g.clear x p) (λ p. let q : x ≡ 2 * j = omega arith in rw q (omega (arith, g.is)))

      pub lasting_found : (r : ℕ) → OfTwo sum (2 * j) m r → r < 2 → Lasts w s (2 * j + r)
      lasting_found r (neither h) o =
          record { few = omega arith; past = omega (arith, g.is); clear = λ x p. g.clear x (omega arith) }
      lasting_found r (first h i) o =
          record { few = omega arith; past = omega (arith, g.is); clear = λ x p. clear_to x p h }
      lasting_found r (second h i) o = absurd (omega arith)

      module _ (n : ℕ) (f : n ≡ get_or w (2 * j + 1) 0) where
        lasting_sum : sum + (m + n) ≡ s + marked_to w (2 * (j + 1))
        unfolding marked_to
        lasting_sum =
            let q : 2 * j + 1 + 1 ≡ 2 * (j + 1) = omega arith in
            rw (sym q) (omega (arith, lasting_first, sum_next (λ i. get_or w i 0) (2 * j + 1) (marked_to w (2 * j + 1)) n refl f))

        pub lasting_fits : Fits w64 (sum + (m + n))
        unfolding marked_to
        lasting_fits =
            record { fits = omega (arith, lasting_sum, b.room, sum_upto (λ i. get_or w i 0) (2 * (j + 1)) 256 (omega arith)) }

        pub lasting_next : (r : ℕ) → OfTwo sum (2 * j) m r → 2 ≤ r → Lasting w s (j + 1) (sum + (m + n))
        lasting_next r (neither h) o = absurd (omega arith)
        lasting_next r (first h i) o = absurd (omega arith)
        lasting_next r (second h i) o = record {
          few = omega arith;
          is = lasting_sum;
          clear = λ x p. dite (dec_lt x (2 * j + 1)) (λ q. clear_to x q h)
              (λ q. let z : x ≡ 2 * j + 1 = omega arith in rw z (omega (arith, lasting_first)));
        }

pub ruleset lasting_laws = (lasting_start, lasting_found, lasting_end, lasting_fits, lasting_next)

-- ---- the loop over the rows

pub record Sieved (τ : TaskSet) (t : ℕ) (back : Bool) (s r : ℕ) : Type 0 where
  pub few : r ≤ 256
  pub past : s < r
  pub clear : (k : ℕ) → k < r → k ≤ s + given_to τ t back k τ.rows

pub record Sieving (τ : TaskSet) (t : ℕ) (back : Bool) (i : ℕ) (w : List ℕ) : Type 0 where
  pub long : length w ≡ 256
  pub are : (k : ℕ) → k ≤ 256 → marked_to w k ≡ given_to τ t back k i
  pub room : marked_to w 256 ≤ 256000000 * i

module _ (τ : TaskSet) (fit : Fit τ) (t : ℕ) (back : Bool) where
  pub sieving_start : Sieving τ t back 0 (replicate 256 0)
  unfolding marked_to given_to sum_to
  sieving_start = record {
    long = length-replicate {A = ℕ} 256 0;
    are = λ k h. nothing k;
    room = omega (arith, nothing 256);
  }
    where
      blank : (i : ℕ) → ◌≡◌ {A = ℕ} (get_or (replicate 256 0) i 0) 0
      blank i =
          dite (dec_lt i 256) (λ l. get_or-replicate 256 i 0 0 l) (λ l. get_or-eq_default (replicate 256 0) 0 {n = i} (omega (arith, length-replicate {A = ℕ} 256 0)))

      nothing : (k : ℕ) → marked_to (replicate 256 0) k ≡ 0
      nothing k = sum_zero _ k (λ i l. blank i)

  module _ (i : ℕ) (w : List ℕ) (g : Sieving τ t back i w) where
    module _ (k : Prepared) (y : Ready τ i k) where
      pub sieving_markable : i < τ.rows → Markable w k.period k.run
      sieving_markable l =
          let u = tame_of τ i k y in
          record {
            long = g.long;
            some = omega (arith, u.some, u.apart);
            apart = omega (arith, u.limit);
            room = omega (arith, g.room, fit.few, u.run, u.apart, u.limit);
          }

      pub sieving_next : (v : List ℕ) (a : ℕ) → a ≡ place_by k.deadline k.period t back → Marked w v a k.period k.run → Sieving τ t back (i + 1) v
      unfolding given_to
      sieving_next v a e m =
          let u = tame_of τ i k y in
          let r = y.row in
          record {
            long = m.long;
            are = λ x h.
                m.are x h
                ∙ sum_next (λ i. τ.C i * hits (place_by (τ.D i) (τ.T i) t back) (τ.T i) x) i (marked_to w x) (k.run * hits a k.period x) (g.are x h)
                (rw (e, r.deadline, r.period, r.run) refl);
            room = omega (
              arith,
              g.room,
              m.are 256 (omega arith),
              mul-le-mul {n₁ = k.run} {m₁ = hits a k.period 256} {n₂ = 1000000} {m₂ = 256}
                  (omega (arith, u.run, u.apart, u.limit)) (hits_few a k.period (omega (arith, u.some, u.apart)) 256),
            );
          }

  pub sieving_done : (i n s r : ℕ) (w : List ℕ) → Sieving τ t back i w → i ≤ n → n ≤ i → n ≡ τ.rows → Lasts w s r → Sieved τ t back s r
  sieving_done i n s r w g l h e o =
      let j : i ≡ τ.rows = omega arith in
      record {
        few = o.few;
        past = o.past;
        clear = λ k p. let z : marked_to w k ≡ given_to τ t back k τ.rows = g.are k (omega (arith, o.few)) ∙ ap (given_to τ t back k) j in
            omega (arith, z, o.clear k p);
      }

pub ruleset sieving_laws = (sieving_start, sieving_markable, sieving_next, sieving_done, tame_of)

-- ---- one row's place

module _ (k : Prepared) (u : Tame k) (t q : ℕ) (h : t ≤ 1000000) where
  module _ (w : Within 1000000 (jobs_by_lem k.deadline k.period t) q) where
    pub since_room : k.period * q ≤ t + (k.period - k.deadline)
    since_room =
        rw w.is
        (omega (arith, u.some, u.apart, jobs_room k.deadline k.period t (omega (arith, u.some, u.apart)) u.apart))

    pub since_is : t + (k.period - k.deadline) - k.period * q ≡ since_by k.deadline k.period t
    unfolding since_by
    since_is = rw w.is

  module _ (e : q ≡ ceil_div t k.period) where
    pub until_room : t ≤ k.period * q
    until_room = rw e (omega (arith, ceil_after t k.period (omega (arith, u.some, u.apart))))

    pub until_is : k.period * q - t ≡ until_by k.period t
    unfolding until_by
    until_is = rw e

module _ (D T t r : ℕ) (b : Bool) where
  pub place_back : b ≡ true → r ≡ since_by D T t → r ≡ place_by D T t b
  place_back e h = rw e h

  pub place_forth : b ≡ false → r ≡ until_by T t → r ≡ place_by D T t b
  place_forth e h = rw e h

pub ruleset place_laws = (place_back, place_forth, jobs_fits, since_room, since_is, periods_fits, until_room, until_is)
