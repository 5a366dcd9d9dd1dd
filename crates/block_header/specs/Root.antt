-- The merkle root that a path gives.
--
-- Source: Stratum V2, "Merkle Root Construction". Computed on the four transactions of Bitcoin's
-- block 100,000, and on the one of block 0 with an empty path (the crate's tests).
use Rattle.std.specs.Prelude.{ℕ, List, [], ◌∷◌, ◌++◌, reverse}
use Rattle.block_header.specs.Hash.{dsha}

-- the root from a path that is told from its last hash to its first
abbrev pub root_upward : List ℕ → List (List ℕ) → List ℕ
root_upward txid [] = txid
root_upward txid (last ∷ before) = dsha (root_upward txid before ++ last)

-- the transaction id where the path is empty, and else the double hash of the root by the path
-- without its last hash, followed by that last hash
abbrev pub root : List ℕ → List (List ℕ) → List ℕ
root txid path = root_upward txid (reverse path)
