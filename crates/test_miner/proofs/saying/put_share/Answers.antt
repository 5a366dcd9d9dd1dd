use Rattle.std.proofs.Common.{arith}
use Rattle.test_miner.proofs.Fitting.{share_fits}
use Rattle.test_miner.proofs.saying.put_share.Goals as goal

pub frame-requires : goal.frame-requires
frame-requires c = share_fits _ _ _ _ _ _ (omega arith) (omega arith) (omega arith) (omega arith) (omega arith) (omega arith)
