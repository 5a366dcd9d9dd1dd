-- What was restored of a history, record by record (this project's own).
use Rattle.std.specs.Prelude.{◌≡◌, ℕ, Bool, true, false, Option, None, Some, Result, Ok, Err, List, [], ◌∷◌, ◌++◌}
use Rattle.pool_history.specs.declared.causes.Cause.{Cause}
use Rattle.pool_history.specs.declared.events.Event.{Event}
use Rattle.pool_history.specs.Ledger.{chain, kept_records, magic_2, record_of}
use Rattle.pool_history.specs.Legal.{cause_of}
use Rattle.pool_history.specs.Sessions.{past_of}
use Rattle.history_laws.specs.Legality.{Starts}
use Rattle.ledger_records.specs.Growing.{hash_after}
use Rattle.ledger_records.specs.OneLedger.{AllCanBeKept}
use Rattle.ledger_records.specs.WellFormed.{CanBeKept}
use Rattle.ledger_records.specs.Pieces.{first_piece, piece_behind}
use Rattle.event_store.specs.Blocks.{is_block_event}
use Rattle.ledger_replay.specs.declared.replay.Replay.{Replay}
use Rattle.ledger_replay.specs.Replays.{HasCause, WasReplayed}
use Rattle.ledger_resume.specs.declared.restored.Restored.{Restored}
use Rattle.ledger_resume.specs.Histories.{IsHistoryOf}

-- bytes are the record of an event with its hash, behind the hash before it, and nothing else
pub record IsUnitOf (before bytes : List ℕ) (event : Event) (hash : List ℕ) : Type 0 where
  pub can_be_kept : CanBeKept event
  pub bytes_are : bytes ≡ piece_behind before event
  pub hash_is : hash ≡ chain before (record_of event)

-- they are so of some event
abbrev pub IsSomeUnit : List ℕ → Type 0
IsSomeUnit bytes =
    (before : List ℕ) × (event : Event) × (hash : List ℕ) × IsUnitOf before bytes event hash

-- they are so of no event
abbrev pub AreNoUnit : List ℕ → List ℕ → Type 0
AreNoUnit before bytes = (event : Event) → CanBeKept event → bytes ≡ piece_behind before event → ⊥

-- the events were replayed, each has a record, and this is the hash behind the last
pub record IsRestored (restored : Restored) : Type 0 where
  pub begun : Starts restored.history.events
  pub replayed : WasReplayed restored.replay (past_of restored.history.events)
  pub have_records : AllCanBeKept restored.history.events
  pub hash_is : restored.hash ≡ hash_after restored.history.events

-- one event more was replayed, and this says whether it is a block; or it has a cause
abbrev pub ReplaysOne : {E : Type 0} → List Event → Event → Replay → Result (Option Bool) E → Type 0
ReplaysOne past event replay (Ok (Some is_block)) =
    WasReplayed replay (event ∷ past) × (is_block ≡ is_block_event past event)
ReplaysOne past event replay (Ok None) = (cause : Cause) × HasCause past event cause
ReplaysOne past event replay (Err error) = Unit {0}

-- the first event, of which this is the piece
pub record IsBegunBy (bytes : List ℕ) (restored : Restored) : Type 0 where
  pub restored_is : IsRestored restored
  pub event : Event
  pub events_are : restored.history.events ≡ event ∷ []
  pub piece : bytes ≡ first_piece event

-- no event that is legal as the first one has this piece
abbrev pub BeginsNothing : List ℕ → Type 0
BeginsNothing bytes =
    (event : Event) → CanBeKept event → cause_of [] event ≡ None → bytes ≡ first_piece event → ⊥

-- one event more was restored, of which this is the piece
pub record IsNextBy (old : List Event) (bytes : List ℕ) (restored : Restored) : Type 0 where
  pub restored_is : IsRestored restored
  pub event : Event
  pub events_are : restored.history.events ≡ old ++ event ∷ []
  pub piece : bytes ≡ piece_behind (hash_after old) event

-- no event that is legal behind the others has this piece
abbrev pub LeadsNowhere : List Event → List ℕ → Type 0
LeadsNowhere old bytes =
    (event : Event) → CanBeKept event → cause_of (past_of old) event ≡ None
    → bytes ≡ piece_behind (hash_after old) event → ⊥

-- one of both, as it is answered, unless memory ran out
abbrev pub TakesPiece : {E : Type 0} → List Event → List ℕ → Restored → Result Bool E → Type 0
TakesPiece old bytes restored (Ok true) = IsNextBy old bytes restored
TakesPiece old bytes restored (Ok false) = LeadsNowhere old bytes
TakesPiece old bytes restored (Err error) = Unit {0}

-- all events of these records were restored
pub record IsRestoredFrom (records : List (List ℕ)) (restored : Restored) : Type 0 where
  pub restored_is : IsRestored restored
  pub pieces : kept_records restored.history.events ≡ records

-- no history has these records
abbrev pub HaveNoHistory : List (List ℕ) → Type 0
HaveNoHistory records = (history : List Event) → IsHistoryOf records history → ⊥
