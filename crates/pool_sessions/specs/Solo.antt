-- One session of both roles over a book of its own, from its keeper to its end (this project's own).
use Rattle.std.specs.Prelude.{◌≡◌, ℕ, ◌<◌, Bool, Some, List, [], ◌∷◌, ◌++◌}
use Rattle.pool_io.specs.declared.turn.Turn.{Turn}
use Rattle.pool_io.specs.Outside.{AddsBytes, CountsFailure}
use Rattle.pool_io.specs.Seen.{KeeperSeen, SinkSeen, SourceSeen}
use Rattle.pool_io.specs.Steps.{BringsSteps}
use Rattle.pool_history.specs.declared.events.Event.{Event}
use Rattle.pool_history.specs.declared.events.Event.TheVariants as event
use Rattle.pool_history.specs.declared.events.Role.TheVariants as role
use Rattle.pool_history.specs.declared.refusals.BookError.{BookError}
use Rattle.pool_history.specs.declared.refusals.BookError.TheVariants as fault
use Rattle.pool_history.specs.declared.settings.Rules.{Rules}
use Rattle.pool_history.specs.Calls.{PoolCall, blames_keeper, has_keeper_failed}
use Rattle.pool_history.specs.Refusing.{most_enters}
use Rattle.pool_history.specs.Sessions.{enters, past_of}
use Rattle.ledger_records.specs.Keeping.{IsKept}
use Rattle.share_ledger.specs.Books.{KeepsInstead}
use Rattle.share_ledger.specs.Recovery.{KeepsBeginning}
use Rattle.session_steps.specs.declared.ends.SessionEnd.{SessionEnd}
use Rattle.session_steps.specs.declared.manner.Manner.{Manner}
use Rattle.session_steps.specs.States.{State, Over, new_state}
use Rattle.session_steps.specs.Steps.{SessionStep, Follows, bytes_in_steps, calls_in, turns_in}
use Rattle.v2_sessions.specs.Causes.{is_read_end, is_write_end}
use Rattle.v2_sessions.specs.Good.{IsGoodEnd, IsGoodInput}
use Rattle.v2_sessions.specs.Running.{TakesAll, has_ended}
use Rattle.v2_sessions.specs.Ends.{Failures, HasNoHindrance, IsWellEnded}
use Rattle.pool_sessions.specs.Calling.{StandInTurn, added_in}
use Rattle.pool_sessions.specs.declared.alone.SoloEnd.{SoloEnd}
use Rattle.pool_sessions.specs.declared.alone.SoloEnd.TheVariants as solo

-- a source, a sink and a keeper
pub record Outsides : Type 0 where
  pub source : SourceSeen
  pub sink : SinkSeen
  pub keeper : KeeperSeen

-- a session of both roles, whose miner may or may not roll the version and declare jobs
abbrev pub manner_of : Bool → Bool → ℕ → Manner
manner_of rolling declares idle_turns = record {
  role = role.Solo;
  rolling = rolling;
  declares = declares;
  idle_turns = idle_turns;
}

-- the same by these rules
abbrev pub solo_manner : Rules → Bool → ℕ → Manner
solo_manner rules declares idle_turns = manner_of rules.version_rolling declares idle_turns

-- the number of the one worker
abbrev pub sole_worker : ℕ
sole_worker = 0

-- the keeper's counts round the calls go from the one to the other: each rises just where its call
-- is answered by the keeper's fault, by one
abbrev pub CountsCalls : ℕ → List PoolCall → ℕ → Type 0
CountsCalls before [] now = now ≡ before
CountsCalls before (call ∷ calls) now =
    (call.faults_before ≡ before)
    × CountsFailure (has_keeper_failed call.outcome) before call.faults_after
    × CountsCalls call.faults_after calls now

-- Steps that begin a session of both roles, come to this end and leave this history. They took what
-- the source brought and put what the sink got; their calls stand each at the whole history before
-- it, are answered by that history, and are all that followed on the one that was there. What is left
-- is legal and has records, and the keeper's are its ledger; the keeper's first moment is the same.
pub record IsSessionOn (manner : Manner) (from : List Event) (old new : Outsides)
    (reason : SessionEnd) (history : List Event) : Type 0 where
  pub steps : List SessionStep
  pub last : State
  pub follows : Follows sole_worker (new_state manner) steps last
  pub over : last.stage ≡ Over reason
  pub took : BringsSteps old.source.left new.source.left (turns_in steps)
  pub ended : TakesAll (has_ended steps) old.source.left (turns_in steps)
  pub put : AddsBytes old.sink.held new.sink.held (bytes_in_steps steps)
  pub begins : history ≡ from ++ added_in (calls_in steps)
  pub turns : StandInTurn from (calls_in steps)
  pub kept : IsKept history
  pub ledger : KeepsInstead old.keeper.records new.keeper.records history
  pub begun : KeepsBeginning old.keeper new.keeper
  pub reads : CountsFailure (is_read_end reason) old.source.faults new.source.faults
  pub writes : CountsFailure (is_write_end reason) old.sink.faults new.sink.faults
  pub counts : CountsCalls old.keeper.faults (calls_in steps) new.keeper.faults

-- the same over a history of which nobody has asked anything yet
abbrev pub IsSoloSession : Rules → Bool → ℕ → Outsides → Outsides → SessionEnd → List Event → Type 0
IsSoloSession rules declares idle_turns old new reason history =
    IsSessionOn (solo_manner rules declares idle_turns) (event.Start rules ∷ []) old new reason history

-- the Start wasn't kept: nothing was taken, put or kept
pub record IsUnbegun (old new : Outsides) (cause : BookError) : Type 0 where
  pub source : new.source ≡ old.source
  pub sink : new.sink ≡ old.sink
  pub records : new.keeper.records ≡ old.keeper.records
  pub counts : CountsFailure (blames_keeper cause) old.keeper.faults new.keeper.faults

-- what was done, by how it ended
abbrev pub IsServed : Rules → Bool → ℕ → Outsides → Outsides → SoloEnd → Type 0
IsServed rules declares idle_turns old new (solo.Unbegun cause) = IsUnbegun old new cause
IsServed rules declares idle_turns old new (solo.Over reason) =
    (history : List Event) × IsSoloSession rules declares idle_turns old new reason history

-- all was served, or memory ran out
abbrev pub IsServedWell : SoloEnd → Type 0
IsServedWell (solo.Unbegun fault.KeeperFault) = ⊥
IsServedWell (solo.Unbegun fault.Memory) = Unit {0}
IsServedWell (solo.Over reason) = IsWellEnded reason

-- how often they have failed
abbrev pub failures_of : Outsides → Failures
failures_of outsides = record {
  reads = outsides.source.faults;
  writes = outsides.sink.faults;
  keeper = outsides.keeper.faults;
}

-- where good input reaches no limit and nothing failed, this is so
abbrev pub OnGoodInput : Manner → Outsides → Outsides → Type 0 → Type 0
OnGoodInput manner old new P =
    (turns : List Turn) → old.source.left ≡ Some turns → IsGoodInput manner turns
    → HasNoHindrance manner.idle_turns turns (failures_of old) (failures_of new) → P

-- good input is served to its end, or memory ran out, where nothing else failed and no limit was
-- reached
abbrev pub ServesGoodInput : Rules → Bool → ℕ → Outsides → Outsides → SoloEnd → Type 0
ServesGoodInput rules declares idle_turns old new end =
    OnGoodInput (solo_manner rules declares idle_turns) old new (IsServedWell end)

-- a session over a book of its own, by how it ended; good input is served well
pub record ServesSession (rules : Rules) (declares : Bool) (idle_turns : ℕ) (old new : Outsides)
    (end : SoloEnd) : Type 0 where
  pub did : IsServed rules declares idle_turns old new end
  pub complete : ServesGoodInput rules declares idle_turns old new end

-- the input isn't to blame
abbrev pub BlamesNoInput : SoloEnd → Type 0
BlamesNoInput (solo.Unbegun cause) = Unit {0}
BlamesNoInput (solo.Over reason) = IsGoodEnd reason

-- a session over a book of this history, and the history that it leaves; good input is served well
-- where one session more can enter
pub record ServesBook (manner : Manner) (from : List Event) (old new : Outsides)
    (reason : SessionEnd) (history : List Event) : Type 0 where
  pub did : IsSessionOn manner from old new reason history
  pub complete : enters (past_of from) < most_enters
      → OnGoodInput manner old new (IsWellEnded reason)
