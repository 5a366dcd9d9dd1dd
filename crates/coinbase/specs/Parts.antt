-- The two parts of a coinbase round its twelve bytes of extranonce.
--
-- Sources: Bitcoin's "Raw Transaction Format" and "Coinbase Input"; BIP 141 and BIP 144 for the
-- witness; that the extranonce has twelve bytes is this project's own.
-- Computed on a template whose coinbase stands byte for byte, with and without a witness (the
-- crate's tests).
use Rattle.std.specs.Prelude.{ℕ, ◌+◌, ◌-◌, Bool, if◌then◌else◌, List, [], ◌∷◌, ◌++◌, length, take, drop, replicate}
use Rattle.std.specs.Int.{w32, to_le_bytes}
use Rattle.coinbase.specs.Compact.{compact}

-- what stands before the extranonce and after it, and whether the whole form has a witness
pub record Parts : Type 0 where
  pub prefix : List ℕ
  pub suffix : List ℕ
  pub witness : Bool

-- version, one input that spends no output, and its script as far as the extranonce
abbrev pub prefix_of : ℕ → List ℕ → List ℕ
prefix_of version prefix =
    to_le_bytes w32 version ++ (1 ∷ []) ++ replicate 32 0 ++ replicate 4 255
    ++ ((12 + length prefix) ∷ []) ++ prefix

-- the input's sequence, the outputs behind their number, the lock time
abbrev pub suffix_of : ℕ → ℕ → List ℕ → ℕ → List ℕ
suffix_of sequence count outputs lock_time =
    to_le_bytes w32 sequence ++ compact count ++ outputs ++ to_le_bytes w32 lock_time

-- the coinbase with an extranonce, without witness: the form that its id is the hash of
abbrev pub coin : Parts → List ℕ → List ℕ
coin parts extranonce = parts.prefix ++ extranonce ++ parts.suffix

-- the witness of a coinbase: one item of 32 zero bytes (BIP 141, "witness reserved value")
abbrev pub reserved_value : List ℕ
reserved_value = 1 ∷ 32 ∷ replicate 32 0

-- marker and flag behind the version (BIP 144)
abbrev pub marked_prefix : List ℕ → List ℕ
marked_prefix prefix = take 4 prefix ++ (0 ∷ 1 ∷ []) ++ drop 4 prefix

-- the witness before the lock time (BIP 144)
abbrev pub witnessed_suffix : List ℕ → List ℕ
witnessed_suffix suffix =
    take (length suffix - 4) suffix ++ reserved_value ++ drop (length suffix - 4) suffix

-- the coinbase as it is sent in a block
abbrev pub whole : Parts → List ℕ → List ℕ
whole parts extranonce =
    if parts.witness
    then marked_prefix parts.prefix ++ extranonce ++ witnessed_suffix parts.suffix
    else coin parts extranonce

-- how many bytes that has
abbrev pub whole_len : Parts → ℕ
whole_len parts = length (whole parts (replicate 12 0))
