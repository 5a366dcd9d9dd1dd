use Rattle.std.proofs.Common.{◌∙◌, ap, length, arith}
use Rattle.block_header.proofs.Targets.{length-number_bytes}
use Rattle.test_miner.proofs.Fitting.{opening_fits}
use Rattle.test_miner.proofs.saying.put_opening.Goals as goal

pub frame-requires : goal.frame-requires
frame-requires c = opening_fits _ _ (omega (arith, c.text.ensures.fits, ap length c.text.ensures.value)) c.text.utf8 (ap length c.target_of.ensures ∙ length-number_bytes 32 _)
