-- Compact sizes.
--
-- Source: Bitcoin's "CompactSize Unsigned Integers". Computed on each of the four spellings, and on
-- sizes that aren't in their shortest (the crate's tests).
use Rattle.std.specs.Prelude.{ℕ, ◌^◌, List, [], ◌∷◌, ◌++◌, length, nat_lt, if◌then◌else◌}
use Rattle.std.specs.Int.{w16, w32, w64, to_le_bytes}

-- a number below 2^64 in its shortest spelling
unfoldable pub compact : ℕ → List ℕ
compact n =
    if nat_lt n 253 then n ∷ []
    else if nat_lt n (2 ^ 16) then 253 ∷ to_le_bytes w16 n
    else if nat_lt n (2 ^ 32) then 254 ∷ to_le_bytes w32 n
    else 255 ∷ to_le_bytes w64 n

-- bytes behind their number
abbrev pub sized_bytes : List ℕ → List ℕ
sized_bytes bytes = compact (length bytes) ++ bytes
