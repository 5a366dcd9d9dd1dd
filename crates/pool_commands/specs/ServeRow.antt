-- What `serve SETTINGS LEDGER` owes at each status (this project's own).
use Rattle.std.specs.Prelude.{ℕ, ◌≡◌, ◌⊎◌, List, [], ◌∷◌, Option, None, Some, Result, Ok, Err}
use Rattle.pool_base.specs.Counts.{Rose}
use Rattle.pool_io.specs.declared.host.HostError.{HostError}
use Rattle.pool_io.specs.declared.turn.Turn.{Turn}
use Rattle.pool_io.specs.Hosts.{HostSeen, IsKeeperGiven, IsRefusedKeeper}
use Rattle.pool_io.specs.Openings.{with_keeper_back}
use Rattle.pool_io.specs.Outside.{CountsFailure}
use Rattle.pool_io.specs.Seen.{KeeperSeen, SinkSeen, SourceSeen}
use Rattle.pool_io.specs.Steps.{bytes_in, steps_of}
use Rattle.pool_history.specs.declared.events.Event.TheVariants as event
use Rattle.pool_history.specs.declared.refusals.BookError.{BookError}
use Rattle.pool_history.specs.Calls.{blames_keeper}
use Rattle.door_threads.specs.Failing.{HasFailedDoor, HasFailedItem}
use Rattle.door_threads.specs.Places.{Places}
use Rattle.pool_network.specs.Worlds.{WorldSeen}
use Rattle.pool_settings.specs.declared.settings.Settings.{Settings}
use Rattle.pool_settings.specs.Reading.{AreSettings}
use Rattle.stream_commands.specs.Statuses.{status_of_refusal}
use Rattle.stream_commands.specs.declared.status.Status.{Status}
use Rattle.stream_commands.specs.declared.status.Status.TheVariants as status
use Rattle.pool_settings.specs.Opened.{OpensSettings, most_settings_bytes, status_of_no_settings}
use Rattle.pool_settings.specs.declared.opening.NoSettings.{NoSettings}
use Rattle.share_ledger.specs.Books.{BookSeen, KeepsInstead}
use Rattle.stream_commands.specs.Printing.{PrintsText}
use Rattle.stream_commands.specs.Reading.{IsWhole}
use Rattle.pool_server.specs.Parts.{Service, service_of}
use Rattle.pool_commands.specs.Serving.{ReachedSeen, Served, ServesOnNetwork, Unserved}
use Rattle.pool_commands.specs.ServeStatuses.{status_of_served, status_of_start}
use Rattle.pool_commands.specs.ServeWords.{report_text}

-- how sessions are served by these settings
abbrev pub service_by : Settings → Service
service_by settings =
    service_of (record { rules = settings.rules; base = settings.base }) settings.limits

abbrev pub places_by : Settings → Places
places_by settings = record {
  peer = settings.feed;
  address = settings.address;
  doors = settings.workers;
}

-- the keeper came back, and nothing else changed
pub record GivesKeeperBack (old new : HostSeen) (keeper : KeeperSeen) : Type 0 where
  pub streams : new.streams ≡ old.streams
  pub openings : new.openings ≡ with_keeper_back old.openings keeper

-- the report was printed, and then the keeper came back
pub record IsReported (text : List ℕ) (old new : HostSeen) (keeper : KeeperSeen) (printed : Status) :
    Type 0 where
  pub middle : HostSeen
  pub prints : PrintsText text status.Done old middle printed
  pub back : GivesKeeperBack middle new keeper

-- what follows on the serving
abbrev pub FinishesServing : HostSeen → HostSeen → ReachedSeen → Status → Type 0
FinishesServing old new (Served ended reason ledger_faults door_faults door_memory) status =
    (printed : Status)
    × (status ≡ status_of_served ledger_faults door_faults door_memory printed)
    × IsReported (report_text reason ended.events) old new ended.keeper printed
FinishesServing old new (Unserved ended error) status =
    (status ≡ status_of_refusal error) × GivesKeeperBack old new ended.keeper

-- A book began with the settings' Start, was served on, and its keeper came back.
pub record ServedByBook (settings : Settings) (keeper : KeeperSeen) (old new : WorldSeen)
    (status : Status) : Type 0 where
  pub begun : BookSeen
  pub reached : ReachedSeen
  pub begins : begun.events ≡ event.Start settings.rules ∷ []
  pub kept : KeepsInstead keeper.records begun.keeper.records begun.events
  pub unfailed : begun.keeper.faults ≡ keeper.faults
  pub serves : ServesOnNetwork (service_by settings) (places_by settings) old.network new.network
      begun reached
  pub finishes : FinishesServing old.host new.host reached status

-- the Start wasn't kept: the keeper came back, and nothing else was asked for
pub record HasNoStart (keeper : KeeperSeen) (old new : WorldSeen) (status : Status) : Type 0 where
  pub cause : BookError
  pub keeper_back : KeeperSeen
  pub records : keeper_back.records ≡ keeper.records
  pub counts : CountsFailure (blames_keeper cause) keeper.faults keeper_back.faults
  pub back : GivesKeeperBack old.host new.host keeper_back
  pub network : new.network ≡ old.network
  pub answered : status ≡ status_of_start cause

-- with a keeper that the host gave
abbrev pub ServesOnBook : Settings → KeeperSeen → WorldSeen → WorldSeen → Status → Type 0
ServesOnBook settings keeper old new status =
    ServedByBook settings keeper old new status ⊎ HasNoStart keeper old new status

-- with settings: a keeper is asked for, and then the network
abbrev pub ServesWithKeeper : Settings → List ℕ → WorldSeen → WorldSeen → Status → Type 0
ServesWithKeeper settings ledger old new status =
    ((keeper : KeeperSeen) × (given : HostSeen) × IsKeeperGiven ledger old.host given keeper
    × ServesOnBook settings keeper (record { host = given; network = old.network }) new status)
    ⊎ ((error : HostError) × (status ≡ status_of_refusal error)
    × IsRefusedKeeper ledger old.host new.host error × (new.network ≡ old.network))

-- what follows on the settings file's reading
abbrev pub ServesAfterSettings :
    List ℕ → Result Settings NoSettings → WorldSeen → WorldSeen → Status → Type 0
ServesAfterSettings ledger (Ok settings) old new status =
    ServesWithKeeper settings ledger old new status
ServesAfterSettings ledger (Err no_settings) old new status =
    (new ≡ old) × (status ≡ status_of_no_settings no_settings)

-- the settings file is read and handed back, then a keeper, a link to the feed and doors are asked
-- for, up to what is refused; when all sessions are over, the output is asked for
abbrev pub ServesByNames : List ℕ → List ℕ → WorldSeen → WorldSeen → Status → Type 0
ServesByNames settings_name ledger_name old new status =
    (answer : Result Settings NoSettings) × (read : HostSeen)
    × OpensSettings settings_name old.host read answer
    × ServesAfterSettings ledger_name answer (record { host = read; network = old.network }) new
    status

-- what failed where there were settings: nothing, or memory ran out; a put of the report; what keeps
-- the records (Kept); or the host, the network or a door. Or the ledger was none of this pool's
-- (Wrong)
abbrev pub HasFailureBy : (Kept Wrong : Type 0) → WorldSeen → WorldSeen → Status → Type 0
HasFailureBy Kept Wrong old new status.Done = Unit {0}
HasFailureBy Kept Wrong old new status.Memory = Unit {0}
HasFailureBy Kept Wrong old new status.WriteFault =
    HasFailedItem (λ (sink : SinkSeen). sink.faults) old.host.streams.sinks new.host.streams.sinks
HasFailureBy Kept Wrong old new status.KeeperFault = Kept
HasFailureBy Kept Wrong old new status.HostFault =
    Rose old.host.streams.faults new.host.streams.faults ⊎ Rose old.network.faults new.network.faults
    ⊎ HasFailedDoor old.network new.network
HasFailureBy Kept Wrong old new status.WrongLedger = Wrong
HasFailureBy Kept Wrong old new _ = ⊥

-- a keeper that was given has failed
abbrev pub HasFailedKeeper : HostSeen → HostSeen → Type 0
HasFailedKeeper old new =
    HasFailedItem (λ (keeper : KeeperSeen). keeper.faults) old.openings.keepers new.openings.keepers

-- the file is told, comes to its End within the limits, and is settings
abbrev pub BringsSettings : Option (List Turn) → Type 0
BringsSettings None = ⊥
BringsSettings (Some turns) =
    (settings : Settings) × IsWhole most_settings_bytes (steps_of turns)
    × AreSettings (bytes_in (steps_of turns)) settings

-- where each status comes from: 9 and 10 from the settings file, 4 from a read of it that failed,
-- and 5, 6 and 7 from another failure
abbrev pub HasReasonBy : (Kept Wrong : Type 0) → List ℕ → WorldSeen → WorldSeen → Status → Type 0
HasReasonBy Kept Wrong settings_name old new status.BadSettings =
    BringsSettings (old.host.openings.brings settings_name) → ⊥
HasReasonBy Kept Wrong settings_name old new status.Limit =
    BringsSettings (old.host.openings.brings settings_name) → ⊥
HasReasonBy Kept Wrong settings_name old new status.ReadFault =
    HasFailedItem (λ (source : SourceSeen). source.faults) old.host.streams.sources
    new.host.streams.sources
HasReasonBy Kept Wrong settings_name old new status = HasFailureBy Kept Wrong old new status

-- so with a file that brings settings, and with no count risen, the status is 0 or 8
abbrev pub HasReason : List ℕ → WorldSeen → WorldSeen → Status → Type 0
HasReason settings_name old new status =
    HasReasonBy (HasFailedKeeper old.host new.host) ⊥ settings_name old new status

-- the row of `serve SETTINGS LEDGER`
pub record ServeRow (settings_name ledger_name : List ℕ) (old new : WorldSeen) (status : Status) :
    Type 0 where
  pub serves : ServesByNames settings_name ledger_name old new status
  -- whatever the sessions send
  pub complete : HasReason settings_name old new status
