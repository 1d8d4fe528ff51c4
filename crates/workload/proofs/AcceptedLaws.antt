-- More laws of specs/Accepted.antt: they rest on what a must-fail edit makes false. Assumes nothing.
use Rattle.std.specs.Prelude.{◌≡◌, ℕ, zero, suc, ◌+◌, ◌-◌, ◌<◌, ◌≤◌, min, true, false, List, [], ◌∷◌, length, nat_lt, refl}
use Rattle.std.proofs.Common.{sym, ◌∙◌, true≢false, arith}
use Rattle.std.proofs.Math.Path.{ap}
use borrow.Author.Tests.{ltb-true, ltb-false, lt-ltb}
use Rattle.bounded.specs.Tests.{both, gate, gate_off}
use Rattle.bounded.specs.Sum.{sum_zero}
use Rattle.table.specs.Verdict.{opinion_of}
use Rattle.lines.specs.declared.read.Call.TheVariants.{Arrive, Choose, Advance}
use Rattle.lines.specs.declared.read.Line.{Line}
use Rattle.lines.specs.declared.read.Line.TheVariants.{Word, Call as CallLine}
use Rattle.session.specs.declared.Job.{Job}
use Rattle.session.specs.declared.Session.{Session}
use Rattle.session.specs.Reading.{job_at}
use Rattle.session.specs.Start.{no_session, fresh_of, session_of, start_fresh}
use Rattle.guarantee.specs.KeepsFresh.{fresh_job, good_fresh}
use Rattle.transcript.specs.Step.{queue_limit, call_of, step_of}
use Rattle.workload.specs.Numbers.{next_of, next_narrow}
use Rattle.workload.specs.Table.{row_count, table_of}
use Rattle.workload.specs.Trial.{Trial, ready_row_lem, ready, until_next_lem, line_by_lem, line_for, onward, lines_from, trial_start}
use Rattle.workload.specs.Statement.{count_of}
use Rattle.workload.specs.Loose.{count_few, table_rows, every_heavy}
use Rattle.workload.specs.Stands.{next_at, running, ready_row, choose_is, Stand, rows, gives, chooses, step_few}
use Rattle.workload.proofs.StandsLaws.{row_ready, arrived_is, arrives, advanced_is, steps}
use Rattle.workload.specs.Accepted.{Follows, past, Played, lines_length, enough, queued, answered}

module _ (x : Trial) where
  line_arrive : ready x.session ≡ true → line_for x ≡ CallLine (Arrive (ready_row_lem x.session))
  unfolding line_by_lem
  line_arrive e = simp e

  line_step : ready x.session ≡ false → nat_lt 0 x.session.span ≡ true → line_for x ≡ CallLine (Advance (min x.session.span (until_next_lem x.session)))
  unfolding line_by_lem
  line_step e f = simp (e, f)

  line_choose : ready x.session ≡ false → nat_lt 0 x.session.span ≡ false → x.given ≡ true → line_for x ≡ CallLine Choose
  unfolding line_by_lem
  line_choose e f t = simp (e, f, t)

  line_word : ready x.session ≡ false → nat_lt 0 x.session.span ≡ false → x.given ≡ false → line_for x ≡ Word (next_of x.number)
  unfolding line_by_lem
  line_word e f t = simp (e, f, t)

module _ (seed : ℕ) (x : Trial) (done : List Line) (h : Stand seed x done) where
  next_arrive : ready x.session ≡ true → Follows seed x done (CallLine (Arrive (ready_row_lem x.session)))
  unfolding onward step_of call_of
  next_arrive e =
      let q = arrived_is seed x done h e in
      record {
        accepted = answered (Arrive (ready_row_lem x.session)) (rw q refl);
        narrow = omega (arith, ready_row x.session e, rows seed x done h, count_few seed);
        stand = rw q (arrives seed x done h e);
      }

  next_step : ready x.session ≡ false → 1 ≤ x.session.span → length done ≤ 1000
      → Follows seed x done (CallLine (Advance (min x.session.span (until_next_lem x.session))))
  unfolding onward step_of call_of
  next_step e some few =
      let q = advanced_is seed x done h e some few in
      record {
        accepted = answered (Advance (min x.session.span (until_next_lem x.session))) (rw q refl);
        narrow = omega (arith, step_few seed x done h e some);
        stand = rw q (steps seed x done h e some few);
      }

  next_choose : ready x.session ≡ false → x.session.span ≡ 0 → x.given ≡ true → Follows seed x done (CallLine Choose)
  unfolding onward step_of call_of
  next_choose e z t =
      let q = choose_is x.session h.good.sound x.queue z in
      record {
        accepted = answered Choose (rw q refl);
        narrow = tt;
        stand = rw q (chooses seed x done h e z t);
      }

  next_word : ready x.session ≡ false → x.session.span ≡ 0 → x.given ≡ false → length done ≤ 1000 → Follows seed x done (Word (next_of x.number))
  unfolding onward step_of
  next_word e z f few =
      let room : length x.queue < queue_limit = omega (arith, h.queue, h.all) in
      let q = lt-ltb (length x.queue) queue_limit room in
      record {
        accepted = queued (next_of x.number) room;
        narrow = omega (arith, next_narrow x.number);
        stand = simp q (gives seed x done h e z (next_of x.number) f);
      }

  -- THE NEXT LINE IS ACCEPTED, and the trial stands after it
  pub next_line : length done ≤ 1000 → Follows seed x done (line_for x)
  next_line few =
      both (ready x.session) (λ e. rw (line_arrive x e) (next_arrive e))
      (λ e. both (nat_lt 0 x.session.span) (λ f. rw (line_step x e f) (next_step e (ltb-true 0 x.session.span f) few))
      (λ f.
      let z : x.session.span ≡ 0 = omega (arith, ltb-false 0 x.session.span f) in
      both x.given (λ t. rw (line_choose x e f t) (next_choose e z t)) (λ t. rw (line_word x e f t) (next_word e z t few))))

count_past : (k : ℕ) (l done : List Line) → count_of k (past l done) ≡ count_of k l + count_of k done
unfolding count_of
count_past k [] done = omega arith
count_past k (y ∷ l) done = omega (arith, count_past k l (y ∷ done))

length_past : (l done : List Line) → length (past l done) ≡ length l + length done
length_past [] done = omega arith
length_past (y ∷ l) done = omega (arith, length_past l (y ∷ done))

pub played : (seed k : ℕ) (x : Trial) (done : List Line) → Stand seed x done → length done + k ≤ 1000 → Played seed x done (lines_from k x)
unfolding lines_from
played seed zero x done h few = record { accepted = tt; narrow = tt; last = x; stand = h }
played seed (suc k) x done h few =
    let n = next_line seed x done h (omega arith) in
    let r = played seed k (onward x (line_for x)) (line_for x ∷ done) n.stand (omega arith) in
    record { accepted = (n.accepted, r.accepted); narrow = (n.narrow, r.narrow); last = r.last; stand = r.stand }

-- ---- the start

module _ (seed : ℕ) where
  abbrev s : Session
  s = session_of (table_of seed)

  fresh_is : s ≡ fresh_of (table_of seed) (opinion_of (table_of seed)).first
  fresh_is = start_fresh no_session (table_of seed) (every_heavy seed).admitted

  clock_zero : s.clock ≡ 0
  unfolding fresh_of
  clock_zero = ap (λ (x : Session). x.clock) fresh_is

  next_zero : (i : ℕ) → next_at s i ≡ 0
  unfolding next_at
  next_zero i =
      ap (λ (x : Session). (job_at x i).next) fresh_is
      ∙ ap (λ (j : Job). j.next) (fresh_job (table_of seed) (opinion_of (table_of seed)).first i)

  begins : ready s ≡ true
  unfolding next_at
  begins =
      let g = good_fresh (table_of seed) (every_heavy seed).admitted no_session in
      row_ready s 0 (omega (arith, g.count, table_rows seed, count_few seed)) (omega (arith, next_zero 0))

  pub first_stand : Stand seed (trial_start seed) []
  unfolding trial_start count_of gate
  first_stand = record {
    good = good_fresh (table_of seed) (every_heavy seed).admitted no_session;
    behind = λ i l. omega (arith, clock_zero);
    least = omega arith;
    most = omega (arith, sum_zero (next_at s) (row_count seed) (λ i l. next_zero i));
    ticks = omega arith;
    far = omega (arith, clock_zero);
    words = refl;
    runs = omega (arith, gate_off (running s) 1 (simp begins));
    calm = λ t. absurd (true≢false (sym t));
    queue = omega arith;
    all = refl;
    finishes = refl;
  }

  -- THE LINES AFTER THE TABLE
  pub all_played : Played seed (trial_start seed) [] (lines_from (500 - row_count seed) (trial_start seed))
  all_played = played seed (500 - row_count seed) (trial_start seed) [] first_stand (omega arith)

  abbrev lines : List Line
  lines = lines_from (500 - row_count seed) (trial_start seed)

  pub counted : (20 ≤ count_of 65 lines) × (20 ≤ count_of 87 lines) × (20 ≤ count_of 71 lines) × (20 ≤ count_of 82 lines) × (count_of 70 lines ≡ 0)
  unfolding count_of
  counted =
      let r = all_played in
      let c = enough seed r.last (past lines []) r.stand
      (omega (arith, length_past lines [], lines_length (500 - row_count seed) (trial_start seed), count_few seed)) in (
        omega (arith, c.0, count_past 65 lines []),
        omega (arith, c.1, r.stand.words, r.stand.runs, count_past 87 lines []),
        omega (arith, c.1, r.stand.runs, count_past 71 lines []),
        omega (arith, c.1, count_past 82 lines []),
        omega (arith, r.stand.finishes, count_past 70 lines []),
      )
