use Rattle.std.proofs.Common.{◌<◌, arith}
use Rattle.block_header.proofs.Leading.{zero_bits_at}
use Rattle.block_header.proofs.hash.zero_bits.Goals as goal

pub returns-then-byte-ne0-clause-value : goal.returns-then-byte-ne0-clause-value
returns-then-byte-ne0-clause-value c =
    let small : c.in-Some.byte.now < 256 = omega arith in
    zero_bits_at _ c.args.hash.now _ _ _ c.loop-byte.invariant.1 c.in-Some.ensures.steps c.if-byte-ne0.true small
