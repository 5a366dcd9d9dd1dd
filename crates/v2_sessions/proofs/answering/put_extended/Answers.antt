use Rattle.std.proofs.Common.{◌∙◌, ap, length, arith}
use Rattle.block_header.proofs.Targets.{length-number_bytes}
use Rattle.v2_sessions.proofs.Fitting.{extended_fits}
use Rattle.v2_sessions.proofs.answering.put_extended.Goals as goal

pub frame-requires : goal.frame-requires
frame-requires c = extended_fits _ _ _ _ _ (omega arith) (omega arith) (ap length c.target_of.ensures ∙ length-number_bytes 32 _) (omega arith) (rw c.bytes.ensures (omega (arith, c.len.ensures.most, c.len.ensures.value)))
