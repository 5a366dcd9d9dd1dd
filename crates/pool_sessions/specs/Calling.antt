-- What the calls of a book by itself do (this project's own).
use Rattle.std.specs.Prelude.{◌≡◌, List, [], ◌∷◌, ◌++◌, length}
use Rattle.std.specs.List.{flat_map}
use Rattle.pool_base.specs.Calls.{IsOutcome}
use Rattle.pool_history.specs.declared.events.Event.{Event}
use Rattle.pool_io.specs.Outside.{CountsFailure}
use Rattle.pool_history.specs.Answering.{Answer}
use Rattle.pool_history.specs.Calls.{PoolCall, has_keeper_failed, wants_memory}
use Rattle.pool_history.specs.Legal.{Legal}
use Rattle.share_ledger.specs.Books.{BookSeen, KeepsInstead, KeepsLedger}
use Rattle.share_ledger.specs.Recovery.{KeepsBeginning}

-- one call: it stands at the whole history, and is answered by that or is a fault; what it added is
-- what the history got, and a keeper that told its records then tells the history's ledger, its first
-- moment being the same; the counts round it are the keeper's, which rose just where the keeper
-- failed, by one
pub record CallsBook (old : BookSeen) (call : PoolCall) (new : BookSeen) : Type 0 where
  pub at_end : call.front ≡ length old.events
  pub grows : new.events ≡ old.events ++ call.added
  pub ended : IsOutcome Answer wants_memory old.events call call.outcome
  pub kept : KeepsInstead old.keeper.records new.keeper.records new.events
  pub begun : KeepsBeginning old.keeper new.keeper
  pub count_before : call.faults_before ≡ old.keeper.faults
  pub count_after : call.faults_after ≡ new.keeper.faults
  pub counts : CountsFailure (has_keeper_failed call.outcome) old.keeper.faults
      new.keeper.faults

-- the events that calls added
abbrev pub added_in : List PoolCall → List Event
added_in calls = flat_map (λ call. call.added) calls

-- each call finds all that those before it left, and is answered by it
abbrev pub StandInTurn : List Event → List PoolCall → Type 0
StandInTurn events [] = Unit {0}
StandInTurn events (call ∷ calls) =
    (call.front ≡ length events) × IsOutcome Answer wants_memory events call call.outcome
    × StandInTurn (events ++ call.added) calls

-- calls one after the other are what became of the history and of its ledger
pub record GoesOn (old : BookSeen) (calls : List PoolCall) (new : BookSeen) : Type 0 where
  pub grows : new.events ≡ old.events ++ added_in calls
  pub turns : StandInTurn old.events calls
  pub kept : KeepsLedger old.keeper.records old.events
      → KeepsInstead old.keeper.records new.keeper.records new.events
  pub begun : KeepsBeginning old.keeper new.keeper
  pub legal : Legal old.events → Legal new.events
