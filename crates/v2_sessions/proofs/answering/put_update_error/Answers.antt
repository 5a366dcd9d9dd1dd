use Rattle.std.proofs.Common.{refl, arith}
use Rattle.v2_sessions.proofs.Fitting.{code_fits}
use Rattle.v2_sessions.proofs.answering.put_update_error.Goals as goal

pub frame-requires : goal.frame-requires
frame-requires c = code_fits _ _ _ refl (omega arith) c.requires c.utf8.code
