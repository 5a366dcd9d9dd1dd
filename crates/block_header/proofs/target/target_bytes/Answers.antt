use Rattle.std.proofs.Common.{◌∙◌, arith, refl, ℕ}
use Rattle.std.proofs.lemmas.List.{length-set}
use Rattle.block_header.proofs.Targets.{ones_written_more, ones_written}
use Rattle.block_header.proofs.target.target_bytes.Goals as goal

pub loop-byte-preserved : goal.loop-byte-preserved
loop-byte-preserved c = (length-set {A = ℕ} _ _ _ ∙ c.loop-byte.invariant.0, ones_written_more _ _ _ _ _ _ (omega arith) c.loop-byte.invariant.0 c.min-here.ensures refl c.loop-byte.invariant.1)

pub returns : goal.returns
returns c = ones_written _ _ _ _ c.loop-byte-test.false c.loop-byte.auto.byte-index-end c.loop-byte-test.array_long c.loop-byte.invariant.1
