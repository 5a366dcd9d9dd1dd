-- The leads of extranonces (this project's own).
-- A type keeps it.
use Rattle.std.specs.Prelude.{◌≡◌, ℕ, ◌-◌, ◌≤◌, List, ◌++◌, length, take, replicate}

-- a lead in its four bytes: those past its length are 0
pub record IsLead (len : ℕ) (bytes : List ℕ) : Type 0 where
  pub some : 1 ≤ len
  pub most : len ≤ 4
  pub whole : length bytes ≡ 4
  pub padded : take len bytes ++ replicate (4 - len) 0 ≡ bytes
