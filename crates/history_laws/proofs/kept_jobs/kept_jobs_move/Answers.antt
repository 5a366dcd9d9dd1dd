use Rattle.history_laws.proofs.JobsKept.{kept-move}
use Rattle.history_laws.proofs.kept_jobs.kept_jobs_move.Goals as goal

pub returns : goal.returns
returns c = kept-move
