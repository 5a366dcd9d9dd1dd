-- Headers that begin alike, and headers with their hashes (this project's own).
use Rattle.std.specs.Prelude.{◌≡◌, ℕ, List, All, length, map, take}
use Rattle.block_header.specs.Hash.{dsha}

-- the headers have these first 64 bytes, the first of the two blocks that SHA-256 makes of a header
-- (FIPS 180-4, 5.2.1)
abbrev pub BeginWith : List ℕ → List (List ℕ) → Type 0
BeginWith front headers = All (λ header. take 64 header ≡ front) headers

-- four headers, and the double hash of each at its place
pub record HaveHashes (headers hashes : List (List ℕ)) : Type 0 where
  pub four : length headers ≡ 4
  pub hashed : hashes ≡ map dsha headers
