-- Jobs that are planned (this project's own).
use Rattle.std.specs.Prelude.{◌≡◌, ℕ, List}
use Rattle.coinbase.specs.Parts.{Parts}
use Rattle.pool_history.specs.Jobs.{Brought, Came, FromMiner, FromTemplate, JobMove, Source}
use Rattle.pool_history.specs.Judging.{job_parts}

-- a job that is planned: the session that sent its template, the place of its event, what it is made
-- from and its coinbase
pub record PlannedJob : Type 0 where
  pub session : ℕ
  pub at : ℕ
  pub source : Source
  pub coinbase : Parts

-- the move that a plan stands for
abbrev pub move_of : ℕ → ℕ → Source → JobMove
move_of session at (FromTemplate template) = Came at session template
move_of session at (FromMiner custom) = Brought at custom

-- a plan is of what was asked for
pub record IsPlannedAs (session at : ℕ) (source : Source) (script : List ℕ)
    (plan : PlannedJob) : Type 0 where
  pub session_is : plan.session ≡ session
  pub at_is : plan.at ≡ at
  pub source_is : plan.source ≡ source
  pub coinbase_is : plan.coinbase ≡ job_parts source script
