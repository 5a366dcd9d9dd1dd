-- What a table was told, and that its answers are those of the history that its calls stand for
-- (this project's own).
use Rattle.std.specs.Prelude.{◌≡◌, ℕ, List, ◌∷◌, ◌++◌, map}
use Rattle.history_laws.specs.KeptJobs.{is_mineable_by, kept_jobs_of, state_by}
use Rattle.pool_history.specs.declared.events.Event.{Event}
use Rattle.pool_history.specs.declared.templates.TemplateData.{TemplateData}
use Rattle.pool_history.specs.Jobs.{JobMove, job_moves, job_numbered, jobs_of, jobs_told, state_of}
use Rattle.pool_history.specs.Judging.{is_mineable}
use Rattle.pool_history.specs.Refusing.{template_refusal}
use Rattle.pool_history.specs.Sessions.{past_of, templates}
use Rattle.template_jobs.specs.HeldJobs.{as_job}
use Rattle.template_jobs.specs.Tables.{JobTable, TakesMove, held_jobs, kept_jobs, refusal_of, templates_of}

-- a table was told these moves, the last of which stands first
abbrev pub WasTold : JobTable → List JobMove → Type 0
WasTold table moves = kept_jobs table ≡ kept_jobs_of (jobs_told moves)

-- the move that a table takes is told to it, whatever it was told before
abbrev pub MovesAreTold : Type 0
MovesAreTold =
    (script : List ℕ) (move : JobMove) (moves : List JobMove) (old new : JobTable)
    → TakesMove script move old new → WasTold old moves → WasTold new (move ∷ moves)

-- what is read of a table is read of a history's jobs; a template is refused as after that history
pub record ReadsJobs (past : List Event) (table : JobTable) : Type 0 where
  pub state : (number : ℕ) → state_by (kept_jobs table) number ≡ state_of (jobs_of past) number
  pub mineable : (channel number : ℕ)
      → is_mineable_by (kept_jobs table) channel number
      ≡ is_mineable channel (job_numbered number (jobs_of past).all)
  pub held : map as_job (held_jobs table)
      ≡ (jobs_of past).future ++ (jobs_of past).live ++ (jobs_of past).custom
  pub templates : templates_of table ≡ templates past
  pub refusal : (script : List ℕ) (template : TemplateData)
      → refusal_of script table template ≡ template_refusal script past template

-- so it is with a table that was told a history's moves
abbrev pub HistoriesAreRead : Type 0
HistoriesAreRead =
    (history : List Event) (table : JobTable) → WasTold table (job_moves (past_of history))
    → ReadsJobs (past_of history) table
