use Rattle.std.proofs.Common.{arith}
use Rattle.mining_msgs.proofs.PlainSetups.{plain_setup_fits}
use Rattle.mining_msgs.proofs.plain_setup.put_plain_setup.Goals as goal

pub frame-requires : goal.frame-requires
frame-requires c = plain_setup_fits _ (omega arith)
