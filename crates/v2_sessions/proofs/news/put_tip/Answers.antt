use Rattle.std.proofs.Common.{arith}
use Rattle.v2_sessions.proofs.Fitting.{tip_fits}
use Rattle.v2_sessions.proofs.news.put_tip.Goals as goal

pub frame-requires : goal.frame-requires
frame-requires c = tip_fits _ _ _ _ _ (omega arith) (omega arith) c.bytes.ensures.length (omega arith) (omega arith)
