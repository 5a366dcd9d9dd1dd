-- What `solo SETTINGS LEDGER` and `declare SETTINGS LEDGER` owe at each status (this project's own).
use Rattle.std.specs.Prelude.{ℕ, Bool, true, false, ◌≡◌, ◌⊎◌, List, Some, Result, Ok, Err}
use Rattle.pool_io.specs.declared.host.HostError.{HostError}
use Rattle.pool_io.specs.declared.opening.Opening.TheVariants as opening
use Rattle.pool_io.specs.declared.turn.Turn.{Turn}
use Rattle.pool_io.specs.Hosts.{CameBack, HostSeen, IsKeeperGiven, IsRefusedKeeper}
use Rattle.pool_io.specs.Lending.{nothing_left}
use Rattle.pool_io.specs.Openings.{Openings, openings_after, openings_and, with_keeper_back}
use Rattle.pool_io.specs.Seen.{KeeperSeen}
use Rattle.v2_sessions.specs.Good.{IsGoodInput}
use Rattle.pool_settings.specs.declared.settings.Settings.{Settings}
use Rattle.stream_commands.specs.Rows.{IsRefusedByHost}
use Rattle.stream_commands.specs.Statuses.{status_of_refusal}
use Rattle.stream_commands.specs.declared.status.Status.{Status}
use Rattle.pool_settings.specs.Opened.{OpensSettings, status_of_no_settings}
use Rattle.pool_settings.specs.declared.opening.NoSettings.{NoSettings}
use Rattle.pool_commands.specs.SoloStatuses.{status_of_solo}
use Rattle.pool_sessions.specs.declared.alone.SoloEnd.{SoloEnd}
use Rattle.pool_sessions.specs.Solo.{BlamesNoInput, Outsides, ServesSession, solo_manner}

-- A source and a sink were given beside the keeper, the session was served from the one to the
-- other, and all three came back.
pub record ServedOnHost (declares : Bool) (settings : Settings) (keeper : KeeperSeen) (old new : HostSeen)
    (end : SoloEnd) : Type 0 where
  pub given : Outsides
  pub back : Outsides
  pub given_are : given ≡ record {
    source = record { faults = 0; left = old.streams.input };
    sink = record { faults = 0; held = old.streams.output };
    keeper = keeper;
  }
  -- what the session did, by its end, and that good input was served to its end where nothing failed
  pub served : ServesSession settings.rules declares settings.limits.idle_turns given back end
  -- input that is to blame for nothing isn't blamed
  pub good : (turns : List Turn) → given.source.left ≡ Some turns
      → IsGoodInput (solo_manner settings.rules declares settings.limits.idle_turns) turns → BlamesNoInput end
  pub sources : CameBack old.streams.sources new.streams.sources back.source
  pub sinks : CameBack old.streams.sinks new.streams.sinks back.sink
  pub input : new.streams.input ≡ nothing_left old.streams.input
  pub output : new.streams.output ≡ nothing_left old.streams.output
  pub host : new.streams.faults ≡ old.streams.faults
  pub openings : new.openings ≡ with_keeper_back
      (openings_and (openings_and old.openings opening.Input) opening.Output) back.keeper

-- the host was asked for its input, or for its input and its output, and refused the last of them
abbrev pub AsksUpTo : Openings → Openings → HostError → Type 0
AsksUpTo old new error =
    (new ≡ openings_after {A = Unit {0}} opening.Input (Err error) old)
    ⊎ (new ≡ openings_after {A = Unit {0}} opening.Output (Err error) (openings_and old opening.Input))

-- the host gave no source, or a source and no sink; what it gave came back as it was
pub record IsRefusedSession (keeper : KeeperSeen) (old new : HostSeen) (error : HostError) : Type 0
  where
    pub asked : Openings
    pub upto : AsksUpTo old.openings asked error
    pub openings : new.openings ≡ with_keeper_back asked keeper
    pub streams : IsRefusedByHost old.streams new.streams error

-- with a keeper that the host gave
abbrev pub SessionRow : Bool → Settings → KeeperSeen → HostSeen → HostSeen → Status → Type 0
SessionRow declares settings keeper old new status =
    ((end : SoloEnd) × (status ≡ status_of_solo end) × ServedOnHost declares settings keeper old new end)
    ⊎ ((error : HostError) × (status ≡ status_of_refusal error)
    × IsRefusedSession keeper old new error)

-- with settings: a keeper is asked for, and then the streams
abbrev pub KeeperRow : Bool → Settings → List ℕ → HostSeen → HostSeen → Status → Type 0
KeeperRow declares settings ledger old new status =
    ((keeper : KeeperSeen) × (given : HostSeen) × IsKeeperGiven ledger old given keeper
    × SessionRow declares settings keeper given new status)
    ⊎ ((error : HostError) × (status ≡ status_of_refusal error)
    × IsRefusedKeeper ledger old new error)

-- what follows on the settings file's reading
abbrev pub GoesOnFrom :
    Bool → List ℕ → Result Settings NoSettings → HostSeen → HostSeen → Status → Type 0
GoesOnFrom declares ledger (Ok settings) old new status = KeeperRow declares settings ledger old new status
GoesOnFrom declares ledger (Err no_settings) old new status =
    (new ≡ old) × (status ≡ status_of_no_settings no_settings)

-- the row of a command that serves one session and takes declarations, or not: the settings file is
-- read and handed back, and then the keeper and the streams are asked for, up to what is refused
abbrev pub SessionCommandRow : Bool → List ℕ → List ℕ → HostSeen → HostSeen → Status → Type 0
SessionCommandRow declares settings_name ledger_name old new status =
    (answer : Result Settings NoSettings) × (read : HostSeen)
    × OpensSettings settings_name old read answer
    × GoesOnFrom declares ledger_name answer read new status

-- `solo SETTINGS LEDGER` takes none, and `declare SETTINGS LEDGER` does
abbrev pub SoloRow : List ℕ → List ℕ → HostSeen → HostSeen → Status → Type 0
SoloRow = SessionCommandRow false

abbrev pub DeclareRow : List ℕ → List ℕ → HostSeen → HostSeen → Status → Type 0
DeclareRow = SessionCommandRow true
