use Rattle.std.proofs.Common.{◌≡◌, ◌-◌, ◌^◌, ◌++◌, length, take}
use Rattle.block_header.specs.Target.{number_bytes, target}
use Rattle.block_header.proofs.target.target_bytes.Given as goal

abbrev pub invariant-loop-byte : goal.invariant-loop-byte
invariant-loop-byte l =
    (length l.byte-items ≡ 32) ×
    (take l.byte-index l.byte-items ++ number_bytes (32 - l.byte-index) (2 ^ l.ones - 1) ≡ target l.fn.class)
