use Rattle.history_laws.proofs.JobsFit.{own-jobs_read}
use Rattle.history_laws.proofs.limits.own_jobs_are_read.Goals as goal

pub returns : goal.returns
returns c = own-jobs_read
