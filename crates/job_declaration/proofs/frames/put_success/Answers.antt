use Rattle.std.proofs.Common.{length, ap, arith}
use Rattle.job_declaration.proofs.Fitting.{success_fits}
use Rattle.job_declaration.proofs.frames.put_success.Goals as goal

pub frame-requires : goal.frame-requires
frame-requires c = success_fits _ _ (omega arith) (ap length c.to_le_bytes-token.ensures)
