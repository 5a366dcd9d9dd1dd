-- What one call does to what a source, a sink or a keeper tells, and to a count of failures (this
-- project's own).
use Rattle.std.specs.Prelude.{ℕ, ◌+◌, ◌-◌, ◌^◌, min, max, ◌≡◌, ◌<◌, ◌≤◌, Bool, true, false, List, [], ◌∷◌, ◌++◌, length, take, drop, Option, Some, IfSome, Result, Ok, Err}
use Rattle.std.specs.Option.{option_map}
use Rattle.pool_io.specs.declared.turn.Turn.{Turn}
use Rattle.pool_io.specs.declared.turn.Turn.TheVariants as turn
use Rattle.pool_io.specs.declared.source.Took.{Took}
use Rattle.pool_io.specs.declared.source.Took.TheVariants.{Bytes, End, Idle, Failed}
use Rattle.pool_io.specs.declared.sink.SinkFailed.{SinkFailed}
use Rattle.pool_io.specs.declared.sink.SinkFailed.TheVariants as sink
use Rattle.pool_io.specs.declared.keeper.KeeperFailed.{KeeperFailed}
use Rattle.pool_io.specs.declared.keeper.KeeperFailed.TheVariants as keeper
use Rattle.pool_io.specs.declared.host.HostError.{HostError}
use Rattle.pool_io.specs.declared.host.HostError.TheVariants as host

-- a count of bytes that was taken is from 1 to the room
abbrev pub IsWithinRoom : Took → ℕ → Type 0
IsWithinRoom (Bytes n) room = (0 < n) × (n ≤ room)
IsWithinRoom _ room = Unit {0}

-- the rest of a piece, if there is any, and then the later turns
abbrev pub turns_behind : List ℕ → List Turn → List Turn
turns_behind [] turns = turns
turns_behind (byte ∷ bytes) turns = turn.Piece (byte ∷ bytes) ∷ turns

-- nothing comes any more
abbrev pub IsEnded : List Turn → Type 0
IsEnded [] = Unit {0}
IsEnded (turn.End ∷ turns) = Unit {0}
IsEnded (turn.Piece bytes ∷ turns) = ⊥
IsEnded (turn.Idle ∷ turns) = ⊥

-- the first n bytes of the piece that comes next were taken into the buffer
pub record TakesBytes (old new : List Turn) (n : ℕ) (buffer : List ℕ) : Type 0 where
  pub piece : List ℕ
  pub later : List Turn
  pub next : old ≡ turn.Piece piece ∷ later
  pub enough : n ≤ length piece
  pub taken : take n buffer ≡ take n piece
  pub rest : new ≡ turns_behind (drop n piece) later

-- one answer of a source takes the old turns to the new ones; after End comes End, and a failure
-- takes nothing
abbrev pub TakesFrom : List Turn → List Turn → Took → List ℕ → Type 0
TakesFrom old new (Bytes n) buffer = TakesBytes old new n buffer
TakesFrom old new Idle buffer = old ≡ turn.Idle ∷ new
TakesFrom old new End buffer = IsEnded old × (new ≡ old)
TakesFrom old new Failed buffer = new ≡ old

-- the same of what a source tells, where it tells
abbrev pub TakesTurn : Option (List Turn) → Option (List Turn) → Took → List ℕ → Type 0
TakesTurn old new took buffer = IfSome old (λ turns. (left : List Turn) × (new ≡ Some left)
    × TakesFrom turns left took buffer)

-- a sink that tells what it holds holds these bytes more
abbrev pub AddsBytes : Option (List ℕ) → Option (List ℕ) → List ℕ → Type 0
AddsBytes old new bytes = IfSome old (λ held. new ≡ Some (held ++ bytes))

-- a keeper that tells its records keeps this one more, behind the others; one that told none tells
-- none
abbrev pub AddsRecord : Option (List (List ℕ)) → Option (List (List ℕ)) → List ℕ → Type 0
AddsRecord old new record_bytes = new ≡ option_map (λ records. records ++ record_bytes ∷ []) old

-- the count after one more failure: it stands still at its type's end
abbrev pub next_count : ℕ → ℕ
next_count before = max before (min (before + 1) (2 ^ 64 - 1))

-- a count of failures before and after an answer: the next one where the answer is a failure, and
-- else the same
abbrev pub CountsFailure : Bool → ℕ → ℕ → Type 0
CountsFailure true before now = now ≡ next_count before
CountsFailure false before now = now ≡ before

-- the source failed
abbrev pub is_failed_take : Took → Bool
is_failed_take (Bytes n) = false
is_failed_take End = false
is_failed_take Idle = false
is_failed_take Failed = true

-- the sink failed; lack of memory is no failure
abbrev pub is_failed_put : {A : Type 0} → Result A SinkFailed → Bool
is_failed_put (Ok a) = false
is_failed_put (Err sink.Failed) = true
is_failed_put (Err sink.Memory) = false

-- the keeper failed; lack of memory is no failure
abbrev pub is_failed_append : {A : Type 0} → Result A KeeperFailed → Bool
is_failed_append (Ok a) = false
is_failed_append (Err keeper.Failed) = true
is_failed_append (Err keeper.Memory) = false

-- the host failed; lack of memory is no failure
abbrev pub is_failed_gift : {A : Type 0} → Result A HostError → Bool
is_failed_gift (Ok a) = false
is_failed_gift (Err host.Failed) = true
is_failed_gift (Err host.Memory) = false
