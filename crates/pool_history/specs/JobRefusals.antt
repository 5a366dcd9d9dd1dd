-- What a call answers where a template or a miner's own job is refused (this project's own).
use Rattle.std.specs.Prelude.{◌≡◌, Option, None, Some, Result, Ok, Err}
use Rattle.pool_history.specs.declared.refusals.JobError.{JobError}
use Rattle.pool_history.specs.declared.refusals.JobError.TheVariants as job

-- a refusal is the one that is told, unless memory ran out
abbrev pub IsRefusal : JobError → Option JobError → Type 0
IsRefusal job.Memory told = Unit
IsRefusal (job.TooMany count) told = told ≡ Some (job.TooMany count)
IsRefusal (job.TemplateKnown id) told = told ≡ Some (job.TemplateKnown id)
IsRefusal job.NoTip told = told ≡ Some job.NoTip
IsRefusal (job.UnknownTemplate id) told = told ≡ Some (job.UnknownTemplate id)
IsRefusal (job.Coinbase error) told = told ≡ Some (job.Coinbase error)

-- a call succeeds where no refusal is told, and refuses as it is told, unless memory ran out
abbrev pub RefusesAsTold : {X : Type 0} → Result X JobError → Option JobError → Type 0
RefusesAsTold (Ok x) told = told ≡ None
RefusesAsTold (Err error) told = IsRefusal error told
