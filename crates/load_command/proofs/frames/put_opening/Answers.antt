use Rattle.std.proofs.Common.{◌∙◌, ap, length, arith}
use Rattle.block_header.proofs.Targets.{length-number_bytes}
use Rattle.load_command.proofs.Fitting.{opening_fits}
use Rattle.load_command.proofs.frames.put_opening.Goals as goal

pub frame-requires : goal.frame-requires
frame-requires c = opening_fits _ _ _ (omega arith) (ap length c.user_name.ensures) c.user_name.utf8 (ap length c.target_of.ensures ∙ length-number_bytes 32 _)
