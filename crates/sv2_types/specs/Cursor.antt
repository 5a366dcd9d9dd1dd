-- What contracts see of a reader (this project's own).
use Rattle.std.specs.Prelude.{◌≡◌, ℕ, ◌+◌, List, ◌++◌, length, drop}

-- the bytes that are read, and how many of them have been read
pub record Cursor : Type 0 where
  pub bytes : List ℕ
  pub at : ℕ

-- the bytes that are still to be read
abbrev pub unread_bytes : Cursor → List ℕ
unread_bytes cursor = drop cursor.at cursor.bytes

-- the reader moved over this spelling, which lies at the old place
pub record MovesOver (spelling : List ℕ) (old new : Cursor) : Type 0 where
  pub same : new.bytes ≡ old.bytes
  pub spelled : drop old.at old.bytes ≡ spelling ++ drop new.at old.bytes
  pub moved : new.at ≡ old.at + length spelling
