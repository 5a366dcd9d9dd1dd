use Rattle.std.proofs.Common.{arith}
use Rattle.v2_sessions.proofs.Fitting.{success_fits}
use Rattle.v2_sessions.proofs.answering.put_credit.Goals as goal

pub frame-requires : goal.frame-requires
frame-requires c = success_fits _ _ 1 _ (omega arith) (omega arith) (omega arith) (omega arith)
