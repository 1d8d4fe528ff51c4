-- The fresh session of an admitted table is good (docs/SPECIFICATION.md §5.1). Assumes nothing.
use Rattle.std.specs.Prelude.{ℕ, zero, suc, ◌*◌, ◌/◌, min, ◌≡◌, refl, false, List, length, get_or, take, replicate}
use Rattle.std.proofs.Common.{sym, ◌∙◌, true≢false, arith, length-take, get_or-take, ext_get_or}
use Rattle.std.proofs.Math.Path.{ap}
use Rattle.std.proofs.Math.Logic.{inl}
use Rattle.std.proofs.Math.Dec.{ltb}
use Rattle.std.proofs.Math.ListN.{length-replicate}
use Rattle.bounded.specs.Fold.{put_length, put_at}
use Rattle.edf.specs.Steps.{Start}
use Rattle.edf.proofs.SafeLaws.{safe_start}
use Rattle.table.specs.Rows.{tasks_of, Fit, fit_lawful}
use Rattle.table.specs.Budgets.{brittle}
use Rattle.table.specs.Verdict.{Opinion, bad_length, opinion_of}
use Rattle.table.specs.Opinion.{good_length}
use Rattle.table.proofs.TheoremsLaws.{opinion_fit, admitted_fits}
use Rattle.session.specs.declared.Job.{Job}
use Rattle.session.specs.declared.Session.{Session}
use Rattle.session.specs.Reading.{no_job, job_at, rows_of, waits, state_of}
use Rattle.session.specs.Start.{words_to, fresh_of, start_of, start_fresh}
use Rattle.session.specs.Facts.{Facts, sound_of}
use Rattle.guarantee.specs.Good.{Good}
use Rattle.guarantee.specs.KeepsTable.{opinion_length}

-- ---- the rows

-- a table's numbers are 48 at most, three to a row
length_rows : (n : ℕ) → bad_length n ≡ false → (min n 48 ≡ n) × (3 * (n / 3) ≡ n)
length_rows n e = let g = good_length n e in (omega arith, omega arith)

-- a session of such a table holds its rows
fresh_rows : (l : List ℕ) (kind : ℕ) → bad_length (length l) ≡ false → rows_of (fresh_of l kind) ≡ l
unfolding rows_of fresh_of words_to
fresh_rows l kind e =
    rw n.0
    (ext_get_or 0 (take (3 * (length l / 3)) (words_to l (length l))) l whole
    (λ i u.
    get_or-take (3 * (length l / 3)) (words_to l (length l)) i 0 (omega (arith, n, whole))
    ∙ put_at (λ i. get_or l i 0) (replicate 48 0) (length l) 0 (omega (arith, n)) i (omega (arith, whole))))
  where
    n : (min (length l) 48 ≡ length l) × (3 * (length l / 3) ≡ length l)
    n = length_rows (length l) e

    whole : length (take (3 * (length l / 3)) (words_to l (length l))) ≡ length l
    whole =
        omega (
          arith,
          n,
          length-take (3 * (length l / 3)) (words_to l (length l)),
          put_length (λ i. get_or l i 0) (replicate 48 0) (length l),
        )

-- ---- the jobs: there are none

no_job_lem : (n i : ℕ) → get_or (replicate n no_job) i no_job ≡ no_job
no_job_lem zero i = refl
no_job_lem (suc n) zero = refl
no_job_lem (suc n) (suc i) = no_job_lem n i

pub fresh_job : (l : List ℕ) (kind i : ℕ) → job_at (fresh_of l kind) i ≡ no_job
unfolding fresh_of
fresh_job l kind i = no_job_lem 16 i

-- ---- the session

module _ (l : List ℕ) (e : (opinion_of l).number ≡ 0) where
  abbrev fresh : Session
  fresh = fresh_of l (opinion_of l).first

  fit : Fit (tasks_of l)
  fit = opinion_fit l e

  rows : rows_of fresh ≡ l
  rows = fresh_rows l (opinion_of l).first (opinion_length l e)

  -- the opinion is the one that soundness asks for
  opinion : opinion_of (rows_of fresh) ≡ opinion_of l
  opinion = ap opinion_of rows

  fresh_start : Start (tasks_of l) (state_of fresh)
  unfolding fresh_of waits
  fresh_start = record {
    clock = refl;
    next = λ i u. ap (λ (j : Job). j.next) (fresh_job l (opinion_of l).first i);
    waits = λ i u. ap (λ (j : Job). ltb 0 j.left) (fresh_job l (opinion_of l).first i);
  }

  fresh_facts : Facts fresh
  unfolding fresh_of tasks_of
  fresh_facts = record {
    few = fit.few;
    admitted = ap (λ (a : Opinion). a.number) opinion ∙ e;
    kind = ap (λ (a : Opinion). a.first) opinion;
    clock = omega arith;
    next = λ i u. omega (arith, fresh_start.next i u);
    job = λ i u w. absurd (true≢false (sym w ∙ fresh_start.waits i u));
    choice = inl refl;
  }

  fresh_good : Good l fresh
  unfolding fresh_of tasks_of
  fresh_good = record {
    fit = fit;
    feasible = admitted_fits l e;
    rows = rows;
    count = refl;
    places = length-replicate 16 no_job;
    sound = sound_of fresh fresh_facts;
    safe = safe_start (tasks_of l) (fit_lawful (tasks_of l) fit) (admitted_fits l e) (brittle (tasks_of l)) (state_of fresh) fresh_start;
    apt = λ n. absurd (omega arith);
  }

pub good_fresh : (l : List ℕ) → (opinion_of l).number ≡ 0 → (s₀ : Session) → Good l (start_of s₀ l)
good_fresh l e s₀ = rw (start_fresh s₀ l e) (fresh_good l e)
