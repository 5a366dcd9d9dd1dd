-- The 80 bytes of a block header.
--
-- Source: Bitcoin's "Block Headers". Computed on blocks 0 and 100,000 (the crate's tests).
use Rattle.std.specs.Prelude.{ℕ, List, ◌++◌}
use Rattle.std.specs.Int.{w32, to_le_bytes}

-- version, previous hash, merkle root, time, nbits, nonce; a number has four bytes, low byte first
abbrev pub header_bytes : ℕ → List ℕ → List ℕ → ℕ → ℕ → ℕ → List ℕ
header_bytes version prev_hash root ntime nbits nonce =
    to_le_bytes w32 version ++ prev_hash ++ root
    ++ to_le_bytes w32 ntime ++ to_le_bytes w32 nbits ++ to_le_bytes w32 nonce
