-- The ledger's entries of one row, and how they follow the job of that row (docs/SPECIFICATION.md §6.1). Assumes nothing.
use Rattle.std.specs.Prelude.{ℕ, ◌+◌, ◌-◌, ◌≤◌, ◌<◌, ◌≡◌, refl, List, [], ◌∷◌, eqb}
use Rattle.std.proofs.Common.{sym, ◌∙◌, arith, le-leb, eq-eqb, ne_eqb}
use Rattle.std.proofs.Math.Logic.{dite}
use Rattle.std.proofs.Math.Decide.{dec_lt}
use Rattle.std.proofs.lemmas.Bool.{lt-leb}
use Rattle.bounded.specs.Tests.{both}
use Rattle.edf.specs.Demand.{TaskSet}
use Rattle.session.specs.declared.Job.{Job}
use Rattle.session.specs.Reading.{no_job}
use Rattle.guarantee.specs.Ledger.{none, at, Entry, ran, ended, on_latest}
use Rattle.guarantee.specs.Statement.{Timely, AllTimely}

-- ---- definitions

-- the latest entry of row i, by the row's job j. Where none waits, it has an end, not after its deadline. Otherwise it
-- has no end: it arrived D before the job's deadline, and its run and what the job has left make up C.
pub data Stands (τ : TaskSet) (i : ℕ) (j : Job) (e : Entry) : Type 0 where
  over : (x : ℕ) → j.left ≡ 0 → e.end ≡ at x → x ≤ e.arrival + τ.D i → Stands τ i j e
  waiting : i < τ.rows → 1 ≤ j.left → e.end ≡ none → e.arrival + τ.D i ≡ j.due → e.run + j.left ≡ τ.C i → Stands τ i j e

-- the entries of row i, by the row's job j: the latest as above, and each earlier one as where no job waits
pub data Follows (τ : TaskSet) (i : ℕ) : Job → List Entry → Type 0 where
  nothing : {j : Job} → j.left ≡ 0 → Follows τ i j []
  other : {j : Job} {e : Entry} {l : List Entry} → ¬ (e.row ≡ i) → Follows τ i j l → Follows τ i j (e ∷ l)
  latest : {j : Job} {e : Entry} {l : List Entry} → e.row ≡ i → Stands τ i j e → Follows τ i no_job l → Follows τ i j (e ∷ l)

-- j' is the job j after m of its ticks. No job waits once none is left, and then its deadline counts for nothing.
pub record Ran (m : ℕ) (j j' : Job) : Type 0 where
  pub left : j'.left ≡ j.left - m
  pub due : 1 ≤ j'.left → j'.due ≡ j.due

-- P holds of each entry of row i
abbrev pub Each : ℕ → (Entry → Type 0) → List Entry → Type 0
Each i P [] = Unit
Each i P (e ∷ l) = (e.row ≡ i → P e) × Each i P l

-- a change of an entry leaves it in its row
abbrev pub InRow : (Entry → Entry) → Type 0
InRow f = (e : Entry) → (f e).row ≡ e.row

module _ (τ : TaskSet) (i : ℕ) where
  -- ---- the latest entry

  -- the job has not run
  stands_kept : {j j' : Job} {e : Entry} → Ran 0 j j' → Stands τ i j e → Stands τ i j' e
  stands_kept w (over x z p h) = over x (omega arith) p h
  stands_kept w (waiting r some p a c) = let d = w.due (omega arith) in waiting r (omega arith) p (omega arith) (omega arith)

  -- the job ends at the clock
  pub stands_ended : {j j' : Job} (clock : ℕ) (e : Entry) → 1 ≤ j.left → clock ≤ j.due → j'.left ≡ 0
      → Stands τ i j e → Stands τ i j' (ended clock e)
  stands_ended clock e some h z (over x y p k) = absurd (omega arith)
  stands_ended clock e some h z (waiting r u p a c) = over clock z refl (omega arith)

  -- the job runs for m ticks, up to the clock: its entry ends if these are all that it has left, and only then
  pub stands_ran : {j j' : Job} (clock m : ℕ) (e : Entry) → e.row ≡ i → 1 ≤ j.left → m ≤ j.left → clock ≤ j.due
      → Ran m j j' → Stands τ i j e → Stands τ i j' (ran τ clock m e)
  stands_ran clock m e q some most h w (over x z p k) = absurd (omega arith)
  stands_ran {j} clock m e q some most h w (waiting r u p a c) =
      dite (dec_lt m j.left)
      (λ less.
      let d = w.due (omega arith) in
      waiting r (omega arith) (rw q (simp (lt-leb (τ.C i) (e.run + m) (omega arith)) p)) (omega arith) (omega arith))
      (λ all. over clock (omega arith) (rw q (simp (le-leb (τ.C i) (e.run + m) (omega arith)))) (omega arith))

  -- ---- the entries

  -- the job has not run
  pub follows_kept : {j j' : Job} {l : List Entry} → Ran 0 j j' → Follows τ i j l → Follows τ i j' l
  follows_kept {j' = j'} w (nothing z) = let y : j'.left ≡ 0 = omega arith in nothing y
  follows_kept w (other ne r) = other ne (follows_kept w r)
  follows_kept w (latest q st r) = latest q (stands_kept w st) r

  -- a job arrives where none waits: a new entry
  pub follows_new : {j j' : Job} {l : List Entry} (e : Entry) → e.row ≡ i → j.left ≡ 0 → Stands τ i j' e
      → Follows τ i j l → Follows τ i j' (e ∷ l)
  follows_new e q z st r = latest q st (follows_kept (record { left = omega arith; due = λ some. absurd (omega arith) }) r)

  -- the job changes, and the row's latest entry with it
  pub follows_changed : {j j' : Job} {l : List Entry} (f : Entry → Entry) → InRow f → 1 ≤ j.left
      → ((e : Entry) → e.row ≡ i → Stands τ i j e → Stands τ i j' (f e))
      → Follows τ i j l → Follows τ i j' (on_latest i f l)
  unfolding on_latest
  follows_changed f keeps some step (nothing z) = absurd (omega arith)
  follows_changed f keeps some step (other {e = e} ne r) =
      simp (ne_eqb e.row i ne) (other ne (follows_changed f keeps some step r))
  follows_changed f keeps some step (latest {e = e} q st r) =
      simp (eq-eqb e.row i q) (latest (keeps e ∙ q) (step e q st) r)

  -- the latest entry of another row changes
  pub follows_other : {j : Job} {l : List Entry} (k : ℕ) (f : Entry → Entry) → InRow f → ¬ (i ≡ k)
      → Follows τ i j l → Follows τ i j (on_latest k f l)
  unfolding on_latest
  follows_other k f keeps ik (nothing z) = nothing z
  follows_other k f keeps ik (other {e = e} ne r) =
      both (eqb e.row k) (λ t. simp t (other (λ q. ne (sym (keeps e) ∙ q)) r))
      (λ t. simp t (other ne (follows_other k f keeps ik r)))
  follows_other k f keeps ik (latest {e = e} q st r) =
      simp (ne_eqb e.row k (λ h. ik (sym q ∙ h))) (latest q st (follows_other k f keeps ik r))

  -- each entry is in time, where a waiting job's deadline is ahead of the clock
  pub follows_timely : {j : Job} {l : List Entry} (clock : ℕ) → (i < τ.rows → 1 ≤ j.left → clock < j.due)
      → Follows τ i j l → Each i (Timely τ clock) l
  follows_timely clock h (nothing z) = tt
  follows_timely clock h (other ne r) = (λ q. absurd (ne q), follows_timely clock h r)
  follows_timely clock h (latest q (over x z p k) r) =
      (λ u. simp (p, q) k, follows_timely clock (λ b some. absurd (omega arith)) r)
  follows_timely clock h (latest q (waiting b some p a c) r) =
      (λ u. let k = h b some in simp (p, q) (omega arith), follows_timely clock (λ b some. absurd (omega arith)) r)

-- entries that are in time row by row are all in time
pub each_timely : (τ : TaskSet) (clock : ℕ) (l : List Entry) → ((i : ℕ) → Each i (Timely τ clock) l) → AllTimely τ clock l
each_timely τ clock [] h = tt
each_timely τ clock (e ∷ l) h = ((h e.row).0 refl, each_timely τ clock l (λ i. (h i).1))
