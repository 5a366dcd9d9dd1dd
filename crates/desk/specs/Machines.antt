-- What one call of a machine does to its events and its health (this project's own).
use Rattle.std.specs.Prelude.{◌≡◌, ℕ, ◌≤◌, Bool, false, List, ◌++◌, Option, None, Result, Ok, Err}
use Rattle.pool_base.specs.Counts.{Rose}

-- what a machine tells of what it keeps: whether it tells its records, and how many of them were there
-- for good at its first moment, where it tells that
pub record Telling : Type 0 where
  pub records : Bool
  pub begun : Option ℕ

-- one that tells nothing
abbrev pub tells_nothing : Telling
tells_nothing = record { records = false; begun = None }

-- its count of faults, and what it tells of what it keeps
pub record Health : Type 0 where
  pub faults : ℕ
  pub tells : Telling

-- the count is no less than before, and the machine tells what it told, which is of its first moment
pub record IsLaterHealth (before after : Health) : Type 0 where
  pub faults : before.faults ≤ after.faults
  pub tells : after.tells ≡ before.tells

-- a reply adds what the machine answers with; a fault adds nothing, and the count rose unless memory
-- was wanted
abbrev pub MakesTurn :
    {E Q R F : Type 0} → (List E → ℕ → Q → List E → R → Type 0) → (F → Bool) → List E → ℕ → ℕ → Q
    → List E → ℕ → Result R F → Type 0
MakesTurn {E} answers wants_memory before least caller request after most (Ok reply) =
    (added : List E) × (after ≡ before ++ added) × answers before caller request added reply
MakesTurn answers wants_memory before least caller request after most (Err fault) =
    (after ≡ before) × (wants_memory fault ≡ false → Rose least most)
