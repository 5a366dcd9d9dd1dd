use Rattle.std.proofs.Common.{◌≡◌, ℕ, ◌<◌, ◌-◌, List, ◌++◌, length, drop}
use Rattle.std.specs.Int.{w64, to_le_bytes}
use Rattle.block_header.specs.Hash.{dsha}
use Rattle.bench.proofs.bytes.last_hash.Given as goal

-- the bytes that were given have the last number in front, and this is their hash
pub record IsNumbered (given bytes hash : List ℕ) (number : ℕ) : Type 0 where
  pub long : length bytes ≡ length given
  pub rest : drop 8 bytes ≡ drop 8 given
  pub numbered : 0 < number → bytes ≡ to_le_bytes w64 (number - 1) ++ drop 8 given
  pub hashed : 0 < number → hash ≡ dsha bytes

abbrev pub invariant-loop-number : goal.invariant-loop-number
invariant-loop-number l = IsNumbered l.fn.bytes l.bytes l.hash l.number
