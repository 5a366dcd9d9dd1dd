-- What the benchmark hashes (this project's own).
use Rattle.std.specs.Prelude.{ℕ, List, ◌++◌, replicate}
use Rattle.std.specs.Int.{w64, to_le_bytes}
use Rattle.block_header.specs.Hash.{dsha}
use Rattle.block_header.specs.Layout.{header_bytes}
use Rattle.block_header.specs.Root.{root}
use Rattle.block_header.specs.declared.header.Header.{Header}
use Rattle.coinbase.specs.Parts.{Parts, coin}

-- the extranonce of a number: its eight bytes, low byte first, and four zeros
abbrev pub extranonce_of : ℕ → List ℕ
extranonce_of number = to_le_bytes w64 number ++ replicate 4 0

-- the root of the coinbase with the number's extranonce
abbrev pub root_with : Parts → List (List ℕ) → ℕ → List ℕ
root_with parts path number = root (dsha (coin parts (extranonce_of number))) path

-- the hash of the header with that root
abbrev pub share_hash : Parts → List (List ℕ) → Header → ℕ → List ℕ
share_hash parts path header number =
    dsha (header_bytes header.version header.prev_hash (root_with parts path number)
    header.ntime header.nbits header.nonce)
