-- What is booked of a share that meets the nine conditions (this project's own).
use Rattle.std.specs.Prelude.{◌≡◌, ℕ, ◌<◌, ◌≤◌, ◌^◌, Bool, Option, None, Some, Result, Ok, Err, List}
use Rattle.block_header.specs.Hash.{dsha}
use Rattle.block_header.specs.Target.{is_at_most}
use Rattle.pool_history.specs.declared.events.Event.{Event}
use Rattle.pool_history.specs.declared.refusals.Failed.{Failed}
use Rattle.pool_history.specs.declared.settings.Rules.{Rules}
use Rattle.pool_history.specs.Conditions.{first_false}
use Rattle.pool_history.specs.Crediting.{admitted_work, headers, last_conditions, reward_of}
use Rattle.pool_history.specs.Judging.{Admitted}
use Rattle.pool_history.specs.Sessions.{credits}
use Rattle.channels.specs.declared.channel.Channel.{Channel}
use Rattle.template_jobs.specs.HeldJobs.{HeldJob}
use Rattle.pool_history.specs.declared.templates.TipData.{TipData}
use Rattle.pool_tables.specs.declared.passing.Passed.{Passed}
use Rattle.pool_tables.specs.Admission.{IsAdmittedAs}
use Rattle.pool_tables.specs.Headers.{HeaderSet, ShowsHeaders}

-- what is booked: the header, whether it is a block, the work, and the reward of the job
pub record IsBookedAs (with : Admitted) (header : List ℕ) (passed : Passed) : Type 0 where
  pub header_is : passed.header ≡ header
  pub block_is : passed.is_block ≡ is_at_most (dsha header) with.tip.target
  pub work_is : passed.work ≡ admitted_work with
  pub reward_is : passed.reward ≡ reward_of with.job.source

-- a work and a reward that a tally takes
pub record IsPayable (work reward : ℕ) : Type 0 where
  pub some : 1 ≤ work
  pub small : work ≤ 2 ^ 60
  pub payable : reward < 2 ^ 40

-- a share with this header meets the last three conditions and this is booked of it, or this is the
-- first that fails
abbrev pub Passes : Rules → List Event → Admitted → List ℕ → Result Passed Failed → Type 0
Passes rules past with header (Ok passed) =
    (first_false (last_conditions rules past with header) None ≡ None)
    × IsBookedAs with header passed
Passes rules past with header (Err code) =
    first_false (last_conditions rules past with header) None ≡ Some code

-- whatever history the headers and the credits are of, and whatever script its pool has
abbrev pub PassesByAll :
    Rules → Channel → HeldJob → ℕ → TipData → ℕ → HeaderSet → ℕ → List ℕ → Result Passed Failed
    → Type 0
PassesByAll rules channel job live_at tip class set count header result =
    (script : List ℕ) (past : List Event) (with : Admitted)
    → IsAdmittedAs script channel job live_at tip class with → ShowsHeaders set (headers past)
    → count ≡ credits past → Passes rules past with header result
