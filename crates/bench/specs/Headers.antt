-- The headers that the benchmark hashes (this project's own; the hash is Bitcoin's, as
-- `block_header` says).
use Rattle.std.specs.Prelude.{ℕ, List}
use Rattle.block_header.specs.Hash.{dsha}
use Rattle.block_header.specs.Layout.{header_bytes}
use Rattle.block_header.specs.declared.header.Header.{Header}

-- the double hash of the header with this nonce in place of its own
abbrev pub header_hash : Header → ℕ → List ℕ
header_hash header nonce =
    dsha (header_bytes header.version header.prev_hash header.root header.ntime header.nbits nonce)
