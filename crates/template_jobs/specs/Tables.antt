-- What a table of jobs shows, what one move does to it, and why one is refused (this project's own).
use Rattle.std.specs.Prelude.{◌≡◌, ℕ, ◌+◌, ◌-◌, ◌^◌, ◌<◌, ◌≤◌, Option, Some, Result, Ok, Err, List, ◌++◌, length, map}
use Rattle.std.specs.List.{AllByRecursion}
use Rattle.coinbase.specs.Coin.{template_assembly}
use Rattle.pool_history.specs.declared.refusals.JobError.{JobError}
use Rattle.pool_history.specs.declared.templates.TemplateData.{TemplateData}
use Rattle.pool_history.specs.declared.templates.TipData.{TipData}
use Rattle.pool_history.specs.declared.spans.LiveSpan.{LiveSpan}
use Rattle.pool_history.specs.Jobs.{FromMiner, FromTemplate, JobMove, Source}
use Rattle.pool_history.specs.Judging.{job_parts, template_terms}
use Rattle.pool_history.specs.Refusing.{coinbase_refusal, refusal_among}
use Rattle.history_laws.specs.KeptJobs.{KeptJobs, OwnJob, kept_after}
use Rattle.template_jobs.specs.declared.owner.Owner.{Owner}
use Rattle.template_jobs.specs.Owners.{AreRising}
use Rattle.template_jobs.specs.HeldJobs.{HasCoinbase, HeldJob, as_job}
use Rattle.template_jobs.specs.Plans.{PlannedJob, move_of}
use Rattle.template_jobs.specs.Spans.{IsLiveWithin, span_after}

-- how many jobs there were, the miners' own among them, the jobs that are future or live, the last
-- tip, bounds of the places since which jobs are live, and for how many more jobs there is room
pub record JobTable : Type 0 where
  pub count : ℕ
  pub own : List OwnJob
  pub future : List HeldJob
  pub live : List HeldJob
  pub custom : List HeldJob
  pub tip : Option TipData
  pub span : LiveSpan
  pub room : ℕ

-- what a table keeps of the jobs
abbrev pub kept_jobs : JobTable → KeptJobs
kept_jobs table = record {
  count = table.count;
  own = table.own;
  future = map as_job table.future;
  live = map as_job table.live;
  custom = map as_job table.custom;
  tip = table.tip;
}

-- how many templates were accepted
abbrev pub templates_of : JobTable → ℕ
templates_of table = table.count - length table.own

-- the future and live jobs
abbrev pub held_jobs : JobTable → List HeldJob
held_jobs table = table.future ++ table.live ++ table.custom

-- the coinbases are those of the jobs with the pool's script
abbrev pub HasCoinbases : List ℕ → JobTable → Type 0
HasCoinbases script table = AllByRecursion (HasCoinbase script) (held_jobs table)

-- two tables show the same, but for their room
abbrev pub IsSameButRoom : JobTable → JobTable → Type 0
IsSameButRoom old new = record new { room = old.room } ≡ old

-- a table was told one move more, its bounds are those after it, and its coinbases are still those
-- with the pool's script
pub record TakesMove (script : List ℕ) (move : JobMove) (old new : JobTable) : Type 0 where
  pub kept : kept_jobs new ≡ kept_after move (kept_jobs old)
  pub spans : new.span ≡ span_after move old.span
  pub coinbases : HasCoinbases script old → HasCoinbases script new

-- why a template is refused
abbrev pub refusal_of : List ℕ → JobTable → TemplateData → Option JobError
refusal_of script table template =
    refusal_among script (templates_of table) (map as_job (table.future ++ table.live)) table.tip
    template

-- a template is refused, or else only its coinbase may be
abbrev pub Admits : JobTable → TemplateData → Result Unit JobError → Type 0
Admits table template (Ok done) =
    (script : List ℕ) → refusal_of script table template
    ≡ coinbase_refusal (template_assembly (template_terms template) script)
Admits table template (Err error) =
    (script : List ℕ) → refusal_of script table template ≡ Some error

-- one more job of this kind is within the limits
abbrev pub IsWithinLimits : JobTable → Source → Type 0
IsWithinLimits table (FromTemplate template) = templates_of table < 2 ^ 20
IsWithinLimits table (FromMiner custom) = length table.own < 2 ^ 18

-- a plan fits a table that is as it was when the plan was made
pub record Fits (table : JobTable) (plan : PlannedJob) : Type 0 where
  pub room : 1 ≤ table.room
  pub few : IsWithinLimits table plan.source

-- a plan's job joins the others; its coinbase is the one with the pool's script where the plan's is
abbrev pub AppliesPlan : PlannedJob → JobTable → JobTable → Type 0
AppliesPlan plan old new =
    (script : List ℕ) → plan.coinbase ≡ job_parts plan.source script
    → TakesMove script (move_of plan.session plan.at plan.source) old new

-- the parts of a table fit each other
pub record AreJobsHeld (count templates : ℕ) (owners : List Owner)
    (future live custom : List HeldJob) (span : LiveSpan) : Type 0 where
  pub counted : count ≡ templates + length owners
  pub templates_few : templates ≤ 2 ^ 20
  pub own_few : length owners ≤ 2 ^ 18
  pub future_few : length future ≤ 16
  pub live_few : length live ≤ 64
  pub rising : AreRising owners
  pub numbered : AllByRecursion (λ owner. owner.job ≤ count) owners
  pub live_within : AllByRecursion (IsLiveWithin span) live
  pub custom_within : AllByRecursion (IsLiveWithin span) custom
