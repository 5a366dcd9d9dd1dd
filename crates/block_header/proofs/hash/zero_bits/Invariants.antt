use Rattle.std.proofs.Common.{◌≡◌, ◌+◌, ◌*◌, length, reverse}
use Rattle.block_header.proofs.Leading.{zeros}
use Rattle.block_header.proofs.hash.zero_bits.Given as goal

abbrev pub invariant-loop-byte : goal.invariant-loop-byte
invariant-loop-byte l =
    (l.bits + 8 * length l.byte-iterator.iter.rest.now ≡ 256) ×
    (l.bits + zeros (reverse l.byte-iterator.iter.rest.now) ≡ zeros (reverse l.hash))
