use Rattle.history_laws.proofs.JobsKept.{kept-suffice}
use Rattle.history_laws.proofs.kept_jobs.kept_jobs_suffice.Goals as goal

pub returns : goal.returns
returns c = kept-suffice
