-- How much a session holds of declarations: room for a token, and how many transactions (this
-- project's own).
use Rattle.std.specs.Prelude.{ℕ, ◌<◌, ◌^◌, Option, None, Some, length}
use Rattle.job_declaration.specs.declared.asked.Asked.{Asked}
use Rattle.job_declaration.specs.declared.asked.Asked.TheVariants.{Nothing, Token, Declared}
use Rattle.job_declaration.specs.State.{Declaration, DeclareState}

-- where a token was asked for, it can be noted without memory
abbrev pub HasRoomFor : Asked → ℕ → ℕ → Type 0
HasRoomFor (Token identity) len capacity = len < capacity
HasRoomFor (Declared request_id) len capacity = Unit {0}
HasRoomFor Nothing len capacity = Unit {0}

-- the declaration that waits, if one does, lists fewer than 2^16 transactions
abbrev pub ListsFew : Option Declaration → Type 0
ListsFew None = Unit {0}
ListsFew (Some declaration) = length declaration.listed < 2 ^ 16

-- fewer than 2^16 transactions are known, and as few are listed by what waits
pub record HoldsFew (state : DeclareState) : Type 0 where
  pub known : length state.known < 2 ^ 16
  pub waiting : ListsFew state.waiting
