-- What a book says of crashes, where its keeper tells what is there for good (this project's own).
use Rattle.std.specs.Prelude.{◌≡◌, ◌⊎◌, ℕ, ◌≤◌, List, [], ◌∷◌, ◌++◌, length, take, Option, None, Some, IfSome, Result, Ok, Err}
use Rattle.pool_io.specs.Crashes.{RoseTo}
use Rattle.pool_io.specs.Seen.{KeeperSeen}
use Rattle.pool_history.specs.declared.events.Event.{Event}
use Rattle.pool_history.specs.Ledger.{kept_records}
use Rattle.ledger_records.specs.Keeping.{KeepsOn}

-- the records that a history has at a keeper: its pieces, and none where it has no event
abbrev pub pieces_of : List Event → List (List ℕ)
pieces_of [] = []
pieces_of (event ∷ history) = kept_records (event ∷ history)

-- of these counts, the last one first, the first
abbrev pub first_count : ℕ → List ℕ → ℕ
first_count last [] = last
first_count last (count ∷ earlier) = first_count count earlier

-- how many records were there for good at a keeper's first moment, where it tells its records and that
abbrev pub count_begun : Option (List (List ℕ)) → Option (List ℕ) → Option ℕ
count_begun None stored = None
count_begun (Some records) None = None
count_begun (Some records) (Some []) = None
count_begun (Some records) (Some (last ∷ earlier)) = Some (first_count last earlier)

abbrev pub begun_with : KeeperSeen → Option ℕ
begun_with keeper = count_begun keeper.records keeper.stored

-- its first moment stays the first
abbrev pub KeepsBeginning : (old new : KeeperSeen) → Type 0
KeepsBeginning old new = begun_with new ≡ begun_with old

-- the records of this history are found, and nothing else
abbrev pub FindsHistory : List Event → Option (List (List ℕ)) → Type 0
FindsHistory history found = found ≡ Some (pieces_of history)

-- those of this history and of one event more are found, with which it is legal and has a ledger
pub record FindsNext (history : List Event) (found : Option (List (List ℕ))) : Type 0 where
  pub next : Event
  pub keeps : KeepsOn history (next ∷ [])
  pub finds : FindsHistory (history ++ next ∷ []) found

-- a crash at a moment when so many events were there for good left these, or these and one more that
-- was to be kept then
pub record LeavesFront (history : List Event) (count : ℕ) (found : Option (List (List ℕ))) : Type 0
  where
    pub within : count ≤ length history
    pub finds : FindsHistory (take count history) found ⊎ FindsNext (take count history) found

-- the history's records are there for good, never were there more before, and whatever a crash may
-- have left is a front of it
pub record Recovers (history : List Event) (records : List (List ℕ)) (counts : List ℕ)
    (may_find : ℕ → Option (List (List ℕ)) → Type 0) : Type 0 where
  pub all : records ≡ pieces_of history
  pub rose : RoseTo (length history) counts
  pub fronts : (count : ℕ) (found : Option (List (List ℕ))) → may_find count found
      → LeavesFront history count found

-- so it is where a keeper tells its records and what is there for good
abbrev pub CanRecover : Option (List (List ℕ)) → Option (List ℕ)
    → (ℕ → Option (List (List ℕ)) → Type 0) → List Event → Type 0
CanRecover told stored may_find history =
    IfSome stored
    (λ counts. IfSome told (λ records. Recovers history records counts may_find))

abbrev pub IsRecoverable :
    KeeperSeen → (ℕ → Option (List (List ℕ)) → Type 0) → List Event → Type 0
IsRecoverable keeper may_find history =
    CanRecover keeper.records keeper.stored may_find history

-- behind the append of the next event's record it is so of the history with it, or, where it failed,
-- of the history
abbrev pub RecoversNext : {A E : Type 0} → Result A E → KeeperSeen
    → (ℕ → Option (List (List ℕ)) → Type 0) → List Event → Event → Type 0
RecoversNext (Ok done) keeper may_find history next =
    IsRecoverable keeper may_find (history ++ next ∷ [])
RecoversNext (Err error) keeper may_find history next = IsRecoverable keeper may_find history

-- the records of this history are there for good, and never were there more, where a keeper tells that
abbrev pub IsStored : KeeperSeen → List Event → Type 0
IsStored keeper history =
    IfSome keeper.stored
    (λ counts. IfSome keeper.records (λ records. RoseTo (length history) counts))
