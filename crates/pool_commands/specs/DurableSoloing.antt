-- What `durable solo SETTINGS LEDGER` owes at each status (this project's own).
use Rattle.std.specs.Prelude.{ℕ, ◌≡◌, ◌⊎◌, false, List, Some, Result, Ok, Err}
use Rattle.pool_io.specs.declared.host.HostError.{HostError}
use Rattle.pool_io.specs.declared.opening.Opening.TheVariants as opening
use Rattle.pool_io.specs.declared.turn.Turn.{Turn}
use Rattle.pool_io.specs.Hosts.{CameBack, HostSeen}
use Rattle.pool_io.specs.Lending.{nothing_left}
use Rattle.pool_io.specs.Openings.{openings_and}
use Rattle.ledger_disk.specs.Calls.{DiskSeen}
use Rattle.ledger_disk.specs.Disks.{DisksSeen}
use Rattle.v2_sessions.specs.Good.{IsGoodInput}
use Rattle.pool_settings.specs.declared.opening.NoSettings.{NoSettings}
use Rattle.pool_settings.specs.declared.settings.Settings.{Settings}
use Rattle.pool_settings.specs.Opened.{OpensSettings, status_of_no_settings}
use Rattle.stream_commands.specs.Rows.{IsRefusedByHost}
use Rattle.stream_commands.specs.Statuses.{status_of_refusal}
use Rattle.stream_commands.specs.declared.status.Status.{Status}
use Rattle.pool_commands.specs.SoloRow.{AsksUpTo}
use Rattle.pool_sessions.specs.Solo.{solo_manner}
use Rattle.pool_commands.specs.declared.durable_session.DiskEnd.{DiskEnd}
use Rattle.pool_commands.specs.Given.{IsDiskGiven, IsRefusedDisk, with_disk_back}
use Rattle.pool_commands.specs.DurableSessions.{BlamesNoInput, DiskOutsides, ServesOnDisk}
use Rattle.pool_commands.specs.DurableStatuses.{status_of_disk_end}

-- a host, and what gives disks
pub record HostAndDisks : Type 0 where
  pub host : HostSeen
  pub disks : DisksSeen

-- A source and a sink were given beside the disk, the session was served from the one to the other,
-- and all three came back.
pub record ServedWithStreams (settings : Settings) (disk : DiskSeen) (old new : HostAndDisks)
    (end : DiskEnd) : Type 0 where
  pub given : DiskOutsides
  pub back : DiskOutsides
  pub given_are : given ≡ record {
    source = record { faults = 0; left = old.host.streams.input };
    sink = record { faults = 0; held = old.host.streams.output };
    disk = disk;
  }
  pub served : ServesOnDisk settings.rules settings.limits.idle_turns given back end
  -- input that is to blame for nothing isn't blamed
  pub good : (turns : List Turn) → given.source.left ≡ Some turns
      → IsGoodInput (solo_manner settings.rules false settings.limits.idle_turns) turns → BlamesNoInput end
  pub sources : CameBack old.host.streams.sources new.host.streams.sources back.source
  pub sinks : CameBack old.host.streams.sinks new.host.streams.sinks back.sink
  pub input : new.host.streams.input ≡ nothing_left old.host.streams.input
  pub output : new.host.streams.output ≡ nothing_left old.host.streams.output
  pub host : new.host.streams.faults ≡ old.host.streams.faults
  pub openings : new.host.openings
      ≡ openings_and (openings_and old.host.openings opening.Input) opening.Output
  pub disks : new.disks ≡ with_disk_back old.disks back.disk

-- the host gave no source, or a source and no sink; the disk came back as it was
pub record LacksStreams (disk : DiskSeen) (old new : HostAndDisks) (error : HostError) : Type 0
  where
    pub asked : AsksUpTo old.host.openings new.host.openings error
    pub streams : IsRefusedByHost old.host.streams new.host.streams error
    pub disks : new.disks ≡ with_disk_back old.disks disk

-- with a disk that was given
abbrev pub DiskSessionRow : Settings → DiskSeen → HostAndDisks → HostAndDisks → Status → Type 0
DiskSessionRow settings disk old new status =
    ((end : DiskEnd) × (status ≡ status_of_disk_end end) × ServedWithStreams settings disk old new end)
    ⊎ ((error : HostError) × (status ≡ status_of_refusal error)
    × LacksStreams disk old new error)

-- with settings: a disk is asked for, and then the streams
abbrev pub DiskRow : Settings → List ℕ → HostAndDisks → HostAndDisks → Status → Type 0
DiskRow settings ledger old new status =
    ((disk : DiskSeen) × (given : DisksSeen) × IsDiskGiven ledger old.disks given disk
    × DiskSessionRow settings disk (record { host = old.host; disks = given }) new status)
    ⊎ ((error : HostError) × (status ≡ status_of_refusal error)
    × IsRefusedDisk ledger old.disks new.disks error × (new.host ≡ old.host))

-- what follows on the settings file's reading
abbrev pub GoesOnWithDisk :
    List ℕ → Result Settings NoSettings → HostAndDisks → HostAndDisks → Status → Type 0
GoesOnWithDisk ledger (Ok settings) old new status = DiskRow settings ledger old new status
GoesOnWithDisk ledger (Err no_settings) old new status =
    (new ≡ old) × (status ≡ status_of_no_settings no_settings)

-- the row of `durable solo SETTINGS LEDGER`: the settings file is read and handed back, and then the
-- disk and the streams are asked for, up to what is refused
abbrev pub DurableSoloRow : List ℕ → List ℕ → HostAndDisks → HostAndDisks → Status → Type 0
DurableSoloRow settings_name ledger_name old new status =
    (answer : Result Settings NoSettings) × (read : HostSeen)
    × OpensSettings settings_name old.host read answer
    × GoesOnWithDisk ledger_name answer (record { host = read; disks = old.disks }) new status
