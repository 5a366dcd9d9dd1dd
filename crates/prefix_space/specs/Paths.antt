-- The strings that lead to nodes and leads, and the numbers that they are kept under (this
-- project's own).
use Rattle.std.specs.Prelude.{◌≡◌, ℕ, ◌-◌, ◌<◌, ◌≤◌, List, ◌∷◌, ◌++◌, length, take, drop, replicate, slice_index}
use Rattle.std.specs.Int.{from_be_bytes, to_be_bytes, w32, w64}
use Rattle.std.specs.List.{AllByRecursion}

-- a string of at most four bytes, in four: those past its length are 0
pub record IsPath (len : ℕ) (bytes : List ℕ) : Type 0 where
  pub most : len ≤ 4
  pub whole : length bytes ≡ 4
  pub padded : take len bytes ++ replicate (4 - len) 0 ≡ bytes

-- a string of at most three bytes, which a node may stand for
pub record IsPrefix (path : List ℕ) : Type 0 where
  pub most : length path ≤ 3
  pub each : AllByRecursion (λ byte. byte < 256) path

-- a lead of one to four bytes
pub record IsShort (lead : List ℕ) : Type 0 where
  pub some : 1 ≤ length lead
  pub most : length lead ≤ 4
  pub each : AllByRecursion (λ byte. byte < 256) lead

-- the number of a prefix: its length, and its bytes with zeros behind them
unfoldable pub node_key : List ℕ → ℕ
node_key path = from_be_bytes w32 (length path ∷ path ++ replicate (3 - length path) 0)

-- the same of a lead
unfoldable pub lead_key : List ℕ → ℕ
lead_key lead = from_be_bytes w64
    (0 ∷ 0 ∷ 0 ∷ length lead ∷ lead ++ replicate (4 - length lead) 0)

-- the lead of a number
abbrev pub spelled : List ℕ → List ℕ
spelled bytes = take (slice_index bytes 3) (drop 4 bytes)

unfoldable pub lead_of : ℕ → List ℕ
lead_of key = spelled (to_be_bytes w64 key)
