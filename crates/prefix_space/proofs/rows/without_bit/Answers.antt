use Rattle.std.proofs.Common.{w64}
use Rattle.std.proofs.lemmas.Nat.Bits.{bit_at_clear_other, bit_at_clear_same}
use Rattle.prefix_space.proofs.rows.without_bit.Goals as goal

pub returns-clause-clear : goal.returns-clause-clear
returns-clause-clear c = bit_at_clear_same w64 _ _ c.requires

pub returns-clause-others : goal.returns-clause-others
returns-clause-others c = bit_at_clear_other w64 _ _ c.requires
