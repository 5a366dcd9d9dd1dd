-- The merkle tree of a block.
--
-- Sources: Bitcoin's "Merkle Trees" for the rows and the root, Stratum V2's "Merkle Root
-- Construction" for the path.
-- Computed on the four transactions of Bitcoin's block 100,000 and the two of block 170
-- (`formats_trials`).
use Rattle.std.specs.Prelude.{ℕ, zero, suc, List, [], ◌∷◌, ◌++◌, length}
use Rattle.block_header.specs.Hash.{dsha}

-- the row above a row of hashes: of its first two, one after the other, of its next two, and so on;
-- an odd last one is paired with itself
abbrev pub row_above : List (List ℕ) → List (List ℕ)
row_above [] = []
row_above (last ∷ []) = dsha (last ++ last) ∷ []
row_above (left ∷ right ∷ others) = dsha (left ++ right) ∷ row_above others

-- the root over a row, at most so many rows above it: that of the row above, until one is left
unfoldable pub root_within : ℕ → List (List ℕ) → List ℕ
root_within rows [] = []
root_within rows (only ∷ []) = only
root_within zero (first ∷ second ∷ others) = []
root_within (suc rows) (first ∷ second ∷ others) =
    root_within rows (row_above (first ∷ second ∷ others))

-- the merkle root of a block whose transactions have these ids, of which there is at least one
abbrev pub merkle_root : List (List ℕ) → List ℕ
merkle_root ids = root_within (length ids) ids

-- the path of a row's rest within so many rows: its first, and then the path of what lies above
-- the others
unfoldable pub path_within : ℕ → List (List ℕ) → List (List ℕ)
path_within rows [] = []
path_within zero (first ∷ others) = []
path_within (suc rows) (first ∷ others) = first ∷ path_within rows (row_above others)

-- the path beside the first id of a block's transactions, by the ids of the others; a row above has
-- fewer hashes, so as many rows as ids are enough
abbrev pub path : List (List ℕ) → List (List ℕ)
path ids = path_within (length ids) ids
