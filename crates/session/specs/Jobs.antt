-- Laws of a session's jobs that are made anew row by row: what stands where, and the loop that does it. Assumes nothing.
use Rattle.std.specs.Prelude.{ℕ, ◌+◌, ◌≤◌, ◌<◌, ◌≡◌, length, get_or, set}
use Rattle.std.proofs.Math.Path.{refl, ap}
use mathlib.Core.List.{List}
use Rattle.std.proofs.Common.{le_refl}
use Rattle.bounded.specs.Fold.{put_length, put_at, put_past, put_start, put_next}
use Rattle.session.specs.declared.Job.{Job}
use Rattle.session.specs.declared.Session.{Session}
use Rattle.session.specs.Reading.{no_job, job_at}
use Rattle.session.specs.Calls.{changed, jobs_with}

module _ (s : Session) (f : ℕ → Job) where
  pub jobs_length : (k : ℕ) → length (jobs_with s f k) ≡ length s.jobs
  unfolding jobs_with
  jobs_length k = put_length f s.jobs k

  pub jobs_at_lem : s.count ≤ length s.jobs → (i : ℕ) → i < s.count → get_or (jobs_with s f s.count) i no_job ≡ f i
  unfolding jobs_with
  jobs_at_lem places i l = put_at f s.jobs s.count no_job places i l

  -- from row k on, no job changes
  pub jobs_past : (k i : ℕ) → k ≤ i → get_or (jobs_with s f k) i no_job ≡ job_at s i
  unfolding jobs_with
  jobs_past k i h = put_past f s.jobs k no_job i h

  -- ---- the loop over the rows

  -- the session once the loop has done i rows
  abbrev pub done_to : ℕ → Session
  done_to i = changed s s.clock (jobs_with s f i) s.chosen s.span

  pub done_start : s ≡ done_to 0
  unfolding jobs_with
  done_start = ap (λ (l : List Job). changed s s.clock l s.chosen s.span) (put_start f s.jobs)

  -- a row that the loop has not reached is as it was
  pub done_past : (q : Session) (i : ℕ) → q ≡ done_to i → job_at q i ≡ job_at s i
  done_past q i e = rw e (jobs_past i i (le_refl i))

  pub done_next : (q : Session) (i : ℕ) (j : Job) → q ≡ done_to i → j ≡ f i
      → changed q q.clock (set q.jobs i j) q.chosen q.span ≡ done_to (i + 1)
  unfolding jobs_with
  done_next q i j e h =
      rw e (ap (λ (l : List Job). changed s s.clock l s.chosen s.span) (put_next f s.jobs (jobs_with s f i) i j refl h))
