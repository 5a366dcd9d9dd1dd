-- What a book answers, and what its keeper is told (this project's own).
use Rattle.std.specs.Prelude.{◌≡◌, ℕ, Bool, true, false, Option, None, Some, is_some, IfSome, Result, Ok, Err, List, [], ◌∷◌, ◌++◌}
use Rattle.std.specs.Option.{option_map}
use Rattle.desk.specs.Machines.{Health}
use Rattle.pool_io.specs.Seen.{KeeperSeen}
use Rattle.pool_history.specs.declared.asking.Request.{Request}
use Rattle.pool_history.specs.declared.events.Event.{Event}
use Rattle.pool_history.specs.declared.refusals.BookError.{BookError}
use Rattle.pool_history.specs.declared.refusals.BookError.TheVariants.{KeeperFault, Memory}
use Rattle.pool_history.specs.declared.replies.Reply.{Reply}
use Rattle.pool_history.specs.Answering.{Answer}
use Rattle.pool_history.specs.Ledger.{kept_records}
use Rattle.pool_history.specs.Calls.{blames_keeper}
use Rattle.share_ledger.specs.Recovery.{begun_with}

-- the events, and the keeper of their records
pub record BookSeen : Type 0 where
  pub events : List Event
  pub keeper : KeeperSeen

-- its keeper's count of faults, and what that one tells of its records
abbrev pub health_of : BookSeen → Health
health_of book = record {
  faults = book.keeper.faults;
  tells = record { records = is_some book.keeper.records; begun = begun_with book.keeper };
}

-- the reply is that of the answer to the request, and the history grows by its events alone
abbrev pub IsReplied : List Event → List Event → ℕ → Request → Reply → Type 0
IsReplied old new worker asked answer =
    (added : List Event) × (new ≡ old ++ added) × Answer old worker asked added answer

-- what a keeper tells, if it does, is this history's ledger in its pieces
abbrev pub KeepsLedger : Option (List (List ℕ)) → List Event → Type 0
KeepsLedger told history = IfSome told (λ records. records ≡ kept_records history)

-- a keeper that told its records tells then this history's ledger, and one that told none tells none
abbrev pub KeepsInstead : Option (List (List ℕ)) → Option (List (List ℕ)) → List Event → Type 0
KeepsInstead before after history = after ≡ option_map (λ records. kept_records history) before

-- a keeper that tells its records has none yet
abbrev pub IsUnused : Option (List (List ℕ)) → Type 0
IsUnused told = IfSome told (λ records. records ≡ [])

abbrev pub is_keeper_fault : {X : Type 0} → Result X BookError → Bool
is_keeper_fault (Ok x) = false
is_keeper_fault (Err error) = blames_keeper error
