use Rattle.std.proofs.Common.{arith}
use Rattle.v2_sessions.proofs.Fitting.{own_job_fits}
use Rattle.v2_sessions.proofs.answering.put_own_job.Goals as goal

pub frame-requires : goal.frame-requires
frame-requires c = own_job_fits _ _ _ (omega arith) (omega arith) (omega arith)
