use Rattle.std.proofs.Common.{◌∙◌, ap, length, arith}
use Rattle.block_header.proofs.Targets.{length-number_bytes}
use Rattle.v2_sessions.proofs.Fitting.{target_fits}
use Rattle.v2_sessions.proofs.answering.put_target.Goals as goal

pub frame-requires : goal.frame-requires
frame-requires c = target_fits _ _ (omega arith) (ap length c.target_of.ensures ∙ length-number_bytes 32 _)
