-- The headers of credits, as they are kept (this project's own).
use Rattle.std.specs.Prelude.{◌≡◌, ℕ, List}
use Rattle.std.specs.List.{list_any}
use Rattle.std.specs.Str.{bytes_eq}

-- the headers that are kept, and for how many more there is room
pub record HeaderSet : Type 0 where
  pub kept : List (List ℕ)
  pub room : ℕ

-- the same headers are among them as among others
pub record ShowsHeaders (set : HeaderSet) (headers : List (List ℕ)) : Type 0 where
  pub among : (header : List ℕ)
      → list_any (bytes_eq header) set.kept ≡ list_any (bytes_eq header) headers
