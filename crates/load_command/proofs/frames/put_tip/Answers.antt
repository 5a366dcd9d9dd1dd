use Rattle.std.proofs.Common.{◌∙◌, ap, length, arith}
use Rattle.block_header.proofs.Targets.{length-number_bytes}
use Rattle.load_command.proofs.Fitting.{tip_fits}
use Rattle.load_command.proofs.frames.put_tip.Goals as goal

pub frame-requires : goal.frame-requires
frame-requires c = tip_fits _ _ _ (omega arith) c.of.ensures.length (ap length c.target_of.ensures ∙ length-number_bytes 32 _)
