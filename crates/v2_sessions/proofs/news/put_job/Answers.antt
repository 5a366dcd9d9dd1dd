use Rattle.std.proofs.Common.{arith}
use Rattle.v2_sessions.proofs.Fitting.{job_fits}
use Rattle.v2_sessions.proofs.news.put_job.Goals as goal

pub frame-requires : goal.frame-requires
frame-requires c = job_fits _ _ _ _ _ (omega arith) (omega arith) c.same_time.ensures.fits (omega arith) c.bytes.ensures.length
