use Rattle.std.proofs.Common.{arith}
use Rattle.load_command.proofs.Fitting.{share_fits}
use Rattle.load_command.proofs.frames.put_share.Goals as goal

pub frame-requires : goal.frame-requires
frame-requires c = share_fits _ _ _ (omega arith) c.requires
