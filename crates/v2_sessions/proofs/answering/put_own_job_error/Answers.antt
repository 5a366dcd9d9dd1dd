use Rattle.std.proofs.Common.{refl, arith}
use Rattle.v2_sessions.proofs.Fitting.{pair_code_fits}
use Rattle.v2_sessions.proofs.answering.put_own_job_error.Goals as goal

pub frame-requires : goal.frame-requires
frame-requires c = pair_code_fits _ _ _ _ refl (omega arith) (omega arith) c.requires c.utf8.code
