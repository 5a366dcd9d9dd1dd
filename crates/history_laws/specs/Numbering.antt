-- The numbers of jobs (this project's own).
use Rattle.std.specs.Prelude.{IsTrue, ◌≡◌, ◌<◌, ◌≤◌, ℕ, false, List, [], ◌∷◌, length}
use Rattle.std.specs.List.{AllByRecursion}
use Rattle.pool_history.specs.declared.events.Event.{Event}
use Rattle.pool_history.specs.Jobs.{Job, Standing, has_number, jobs_of}
use Rattle.pool_history.specs.Sessions.{past_of}

-- each number is below those of the later jobs
abbrev pub AreRising : List Job → Type 0
AreRising [] = Unit {0}
AreRising (job ∷ later) =
    AllByRecursion (λ other. job.number < other.number) later × AreRising later

-- a number that is one of 1 to so many
pub record IsNumberWithin (count : ℕ) (job : Job) : Type 0 where
  pub some : 1 ≤ job.number
  pub most : job.number ≤ count

-- jobs whose numbers rise, from 1 to so many at most
pub record RiseTo (count : ℕ) (jobs : List Job) : Type 0 where
  pub rising : AreRising jobs
  pub within : AllByRecursion (IsNumberWithin count) jobs

-- so they do in each list, up to the number of all jobs; no number is both of the future and alive,
-- and none is both of a template's live job and of a miner's own
pub record HasNumbers (standing : Standing) : Type 0 where
  pub all : RiseTo (length standing.all) standing.all
  pub future : RiseTo (length standing.all) standing.future
  pub live : RiseTo (length standing.all) standing.live
  pub custom : RiseTo (length standing.all) standing.custom
  pub not_live : (number : ℕ) → IsTrue (has_number number standing.future)
      → has_number number standing.live ≡ false
  pub not_custom : (number : ℕ) → IsTrue (has_number number standing.future)
      → has_number number standing.custom ≡ false
  pub not_both : (number : ℕ) → IsTrue (has_number number standing.live)
      → has_number number standing.custom ≡ false

-- so it is in each history
abbrev pub JobsAreNumbered : Type 0
JobsAreNumbered = (history : List Event) → HasNumbers (jobs_of (past_of history))
