-- The double hash of Bitcoin, and the test on its displayed form.
--
-- Sources: FIPS 180-4 for the hash, Bitcoin's "Hash Byte Order" for how it is displayed. Classes
-- are this project's own.
-- Computed on Bitcoin's blocks 0 and 100,000, and on hashes at the edges of bytes (the crate's
-- tests).
use Rattle.std.specs.Prelude.{ℕ, ◌≤◌, ◌==◌, Bool, not, List, [], ◌∷◌, length, reverse, map, take_while, nat_le}
use Rattle.std.specs.List.{flat_map}
use Rattle.std.specs.Int.{bit_at}
use Rattle.sha2.specs.Sha256.{sha256}

-- SHA-256 of the SHA-256 (FIPS 180-4, by the definition of the crate sha2)
abbrev pub dsha : List ℕ → List ℕ
dsha bytes = sha256 (sha256 bytes)

-- a byte's bits as it is displayed, the highest first
abbrev pub bits_of : ℕ → List Bool
bits_of byte = map (λ i. bit_at byte i == 1) (7 ∷ 6 ∷ 5 ∷ 4 ∷ 3 ∷ 2 ∷ 1 ∷ 0 ∷ [])

-- the bits of a hash as it is displayed: its bytes reversed
abbrev pub displayed_bits : List ℕ → List Bool
displayed_bits hash = flat_map bits_of (reverse hash)

-- how many zero bits the displayed hash begins with
abbrev pub zero_bits : List ℕ → ℕ
zero_bits hash = length (take_while not (displayed_bits hash))

-- a hash meets class z: it is displayed with at least z leading zero bits (this project's own)
abbrev pub Meets : List ℕ → ℕ → Type 0
Meets hash z = z ≤ zero_bits hash

-- the same as a test that computes
abbrev pub meets : List ℕ → ℕ → Bool
meets hash z = nat_le z (zero_bits hash)
