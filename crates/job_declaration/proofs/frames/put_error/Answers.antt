use Rattle.std.proofs.Common.{arith}
use Rattle.job_declaration.proofs.Fitting.{error_fits}
use Rattle.job_declaration.proofs.frames.put_error.Goals as goal

pub frame-requires : goal.frame-requires
frame-requires c = error_fits _ _ (omega arith) c.code.ensures.short c.code.utf8
