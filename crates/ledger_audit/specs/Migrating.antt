-- What `migrate OLD NEW` owes at each status (this project's own).
use Rattle.std.specs.Prelude.{ℕ, ◌≡◌, ◌⊎◌, List, [], Some, Result, Ok, Err, codes, false}
use Rattle.pool_history.specs.Summary.{line}
use Rattle.pool_io.specs.declared.host.HostError.{HostError}
use Rattle.pool_io.specs.declared.keeper.KeeperFailed.{KeeperFailed}
use Rattle.pool_io.specs.declared.keeper.KeeperFailed.TheVariants as keeper
use Rattle.pool_io.specs.declared.opening.Opening.TheVariants as opening
use Rattle.pool_io.specs.declared.turn.Turn.{Turn}
use Rattle.pool_io.specs.Hosts.{CameBack, HostSeen, IsKeeperGiven, IsRefusedFile, IsRefusedKeeper, IsRefusedOutput}
use Rattle.pool_io.specs.Lending.{nothing_left}
use Rattle.pool_io.specs.Openings.{openings_and, with_keeper_back}
use Rattle.pool_io.specs.Outside.{CountsFailure, is_failed_append}
use Rattle.pool_io.specs.Seen.{KeeperSeen, SinkSeen, SourceSeen}
use Rattle.pool_io.specs.Steps.{steps_of}
use Rattle.stream_commands.specs.Ending.{DecideEnd, EndsCommand, is_read_fault, is_write_fault}
use Rattle.stream_commands.specs.Statuses.{status_of_refusal}
use Rattle.stream_commands.specs.declared.end.End.{End}
use Rattle.stream_commands.specs.declared.end.End.TheVariants as end
use Rattle.stream_commands.specs.declared.status.Status.{Status}
use Rattle.stream_commands.specs.declared.status.Status.TheVariants as status
use Rattle.stream_commands.specs.Texts.{PutsText}
use Rattle.ledger_audit.specs.declared.copying.Copied.{Copied}
use Rattle.ledger_audit.specs.Copying.{KeepsAgain, copying_duty}

-- the number of events was put
abbrev pub PutsCount : SinkSeen → SinkSeen → ℕ → Status → Type 0
PutsCount old new count answer =
    PutsText old new (line (codes "migrated") count) status.Done answer

-- the status where a record wasn't kept
abbrev pub status_of_keeper : KeeperFailed → Status
status_of_keeper keeper.Failed = status.KeeperFault
status_of_keeper keeper.Memory = status.Memory

-- what the keeping of the new ledger is answered with
abbrev pub AnswersKept : SinkSeen → SinkSeen → Result ℕ KeeperFailed → Status → Type 0
AnswersKept old new (Ok count) answer = PutsCount old new count answer
AnswersKept old new (Err error) answer = (answer ≡ status_of_keeper error) × (new ≡ old)

-- The host gave a keeper, the pieces of the new ledger were appended to it, and it came back.
pub record KeptAgain (name bytes : List ℕ) (old new : HostSeen) (sink put : SinkSeen)
    (answer : Status) : Type 0 where
  pub given : HostSeen
  pub keeper_given : KeeperSeen
  pub keeper_back : KeeperSeen
  pub opened : IsKeeperGiven name old given keeper_given
  pub streams : new.streams ≡ given.streams
  pub openings : new.openings ≡ with_keeper_back given.openings keeper_back
  pub result : Result ℕ KeeperFailed
  pub kept : KeepsAgain bytes keeper_given.records keeper_back.records result
  pub counts : CountsFailure (is_failed_append result) 0 keeper_back.faults
  pub answers : AnswersKept sink put result answer

-- it gave none: nothing was put
pub record IsUnkept (name : List ℕ) (old new : HostSeen) (sink put : SinkSeen) (answer : Status) :
    Type 0 where
  pub error : HostError
  pub refused : IsRefusedKeeper name old new error
  pub unput : put ≡ sink
  pub answered : answer ≡ status_of_refusal error

-- what follows on a legal ledger
abbrev pub KeepRow :
    List ℕ → List ℕ → HostSeen → HostSeen → SinkSeen → SinkSeen → Status → Type 0
KeepRow name bytes old new sink put answer =
    KeptAgain name bytes old new sink put answer ⊎ IsUnkept name old new sink put answer

-- nothing more was opened, and the status is this one
pub record EndsUnchanged (old new : HostSeen) (sink put : SinkSeen) (wanted answer : Status) :
    Type 0 where
  pub host : new ≡ old
  pub unput : put ≡ sink
  pub answered : answer ≡ wanted

-- what follows on the reading of the old ledger
abbrev pub FollowsEnd :
    List ℕ → List ℕ → HostSeen → HostSeen → SinkSeen → SinkSeen → Status → End → Type 0
FollowsEnd name bytes old new sink put answer end.Done =
    KeepRow name bytes old new sink put answer
FollowsEnd name bytes old new sink put answer end.Refused =
    (new ≡ old) × PutsText sink put bytes status.Refused answer
FollowsEnd name bytes old new sink put answer end.IdleOut = EndsUnchanged old new sink put status.Limit answer
FollowsEnd name bytes old new sink put answer end.BytesOut = EndsUnchanged old new sink put status.Limit answer
FollowsEnd name bytes old new sink put answer end.ReadFault =
    EndsUnchanged old new sink put status.ReadFault answer
FollowsEnd name bytes old new sink put answer end.WriteFault =
    EndsUnchanged old new sink put status.WriteFault answer
FollowsEnd name bytes old new sink put answer end.Memory = EndsUnchanged old new sink put status.Memory answer

abbrev pub FinishRow :
    List ℕ → Copied → HostSeen → HostSeen → SinkSeen → SinkSeen → Status → Type 0
FinishRow name copied old new sink put answer =
    FollowsEnd name copied.bytes.items old new sink put answer copied.end

-- The old ledger and the output were given, the ledger was read and handed back, and what follows on
-- it was done; the output came back at last.
pub record MigratedOnHost (old_name new_name : List ℕ) (old new : HostSeen) (answer : Status) :
    Type 0 where
  pub source : SourceSeen
  pub put : SinkSeen
  pub copied : Copied
  pub read : HostSeen
  pub done : HostSeen
  pub sources : CameBack old.streams.sources read.streams.sources source
  pub input : read.streams.input ≡ old.streams.input
  pub output : read.streams.output ≡ nothing_left old.streams.output
  pub host : read.streams.faults ≡ old.streams.faults
  pub opened : read.openings
      ≡ openings_and (openings_and old.openings (opening.Source old_name)) opening.Output
  -- what was read of the old ledger
  pub ran : EndsCommand copying_duty (old.openings.brings old_name) source.left
      (Some []) (Some copied.bytes.items) copied.end
  pub decided : (turns : List Turn) → old.openings.brings old_name ≡ Some turns
      → DecideEnd copying_duty (steps_of turns) copied.end
  pub reads : CountsFailure (is_read_fault (Some copied.end)) 0 source.faults
  pub unfailed : is_write_fault (Some copied.end) ≡ false
  -- what follows on it
  pub follows : FinishRow new_name copied read done (record {
    faults = 0;
    held = old.streams.output;
  }) put answer
  pub openings : new.openings ≡ done.openings
  pub sinks : CameBack old.streams.sinks new.streams.sinks put
  pub streams : new.streams ≡ record done.streams { sinks = new.streams.sinks }

-- the row of `migrate OLD NEW`
abbrev pub MigrateRow : List ℕ → List ℕ → HostSeen → HostSeen → Status → Type 0
MigrateRow old_name new_name old new answer =
    MigratedOnHost old_name new_name old new answer
    ⊎ ((error : HostError) × (answer ≡ status_of_refusal error)
    × (IsRefusedFile old_name old new error ⊎ IsRefusedOutput old_name old new error))
