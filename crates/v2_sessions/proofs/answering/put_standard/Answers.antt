use Rattle.std.proofs.Common.{◌∙◌, ap, length, arith}
use Rattle.std.proofs.lemmas.List.{length-take}
use Rattle.block_header.proofs.Targets.{length-number_bytes}
use Rattle.v2_sessions.proofs.Fitting.{standard_fits}
use Rattle.v2_sessions.proofs.answering.put_standard.Goals as goal

pub frame-requires : goal.frame-requires
frame-requires c = standard_fits _ _ _ _ _ (omega arith) (omega arith) (ap length c.target_of.ensures ∙ length-number_bytes 32 _) (omega (arith, c.standard_prefix-length.ensures.few, length-take c.standard_prefix-length.result.1 c.standard_prefix-length.result.0)) (omega arith)
