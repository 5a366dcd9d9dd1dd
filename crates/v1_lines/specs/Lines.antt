-- Lines of bytes, each ended by a line feed (this project's own).
use Rattle.std.specs.Prelude.{◌≡◌, ℕ, ◌+◌, ◌≤◌, Bool, ◌==◌, false, min, List, [], ◌∷◌, ◌++◌, length}
use Rattle.std.specs.List.{flat_map, list_any, position_or_len}

abbrev pub is_line_feed : ℕ → Bool
is_line_feed byte = byte == 10

abbrev pub has_line_feed : List ℕ → Bool
has_line_feed bytes = list_any is_line_feed bytes

-- a line without its end, or the front of one
pub record IsLineText (bytes : List ℕ) : Type 0 where
  pub one : has_line_feed bytes ≡ false
  pub short : length bytes ≤ 4096

-- where the first line of these bytes ends, behind its line feed; one that is too long ends behind
-- 4,097 bytes
abbrev pub line_end : List ℕ → ℕ
line_end bytes = min (position_or_len is_line_feed bytes + 1) 4097

-- lines one after the other, each with its end
abbrev pub line_bytes : List (List ℕ) → List ℕ
line_bytes lines = flat_map (λ line. line ++ 10 ∷ []) lines
