-- What the top call owes for the words of its command line (this project's own).
use Rattle.std.specs.Prelude.{ℕ, ◌≡◌, ◌<◌, ◌≤◌, List}
use Rattle.stream_commands.specs.declared.status.Status.{Status}
use Rattle.stream_commands.specs.Duties.{Duty}
use Rattle.stream_commands.specs.Rows.{AsksForStreams, StreamRow}
use Rattle.stream_commands.specs.Statuses.{status_code}
use Rattle.ledger_audit.specs.AuditCommand.{AuditRow}
use Rattle.stream_programs.specs.FixedDuty.{share_duty}
use Rattle.stream_programs.specs.Duty.{listing_duty}
use Rattle.ledger_audit.specs.Migrating.{MigrateRow}
use Rattle.pool_commands.specs.DurableAuditing.{DurableAuditRow}
use Rattle.pool_commands.specs.DurableServing.{DurableServeRow}
use Rattle.pool_commands.specs.DurableSoloing.{DurableSoloRow, HostAndDisks}
use Rattle.pool_commands.specs.Surroundings.{Surroundings, world_in}
use Rattle.peer_commands.specs.FeedRow.{FeedRow}
use Rattle.load_command.specs.Row.{LoadRow}
use Rattle.peer_commands.specs.Row.{MineRow}
use Rattle.proxy_command.specs.Row.{ProxyRow}
use Rattle.pool_commands.specs.ServeRow.{ServeRow}
use Rattle.pool_io.specs.Hosts.{HostSeen}
use Rattle.pool_network.specs.Worlds.{WorldSeen}
use Rattle.pool_commands.specs.SoloRow.{DeclareRow, SoloRow}
use Rattle.command_line.specs.declared.words.Form.{Form}
use Rattle.command_line.specs.declared.words.Form.TheVariants.{SoloFixed, Frames, Solo, Declare, Serve, Audit, Migrate, Load, Mine, Feed, Proxy, Durable}
use Rattle.command_line.specs.declared.words.OnDisk.{OnDisk}
use Rattle.command_line.specs.declared.words.OnDisk.TheVariants as disk
use Rattle.command_line.specs.Forms.{IsAudit, IsDeclare, IsDurableAudit, IsDurableServe, IsDurableSolo, IsFeed, IsMigrate, IsMine, IsProxy, IsServe, IsSolo}

-- a command over standard input and output: what it owes at each status, and that it asked for
-- these alone
abbrev pub OwesStreams : Duty → HostSeen → HostSeen → Status → Type 0
OwesStreams duty old new status = StreamRow duty old.streams new.streams status
    × AsksForStreams old.openings new.openings status

-- what each form of words but those over a disk owes at each status: a row a command; none but
-- `serve`, `mine`, `feed` and `proxy` asks the network for anything
abbrev pub OwesPlainRow : List (List ℕ) → Form → WorldSeen → WorldSeen → Status → Type 0
OwesPlainRow words (SoloFixed class job) old new status =
    OwesStreams (share_duty class job) old.host new.host status × (new.network ≡ old.network)
OwesPlainRow words Frames old new status =
    OwesStreams listing_duty old.host new.host status × (new.network ≡ old.network)
OwesPlainRow words Solo old new status =
    ((names : IsSolo words) × SoloRow names.settings names.ledger old.host new.host status)
    × (new.network ≡ old.network)
OwesPlainRow words Declare old new status =
    ((names : IsDeclare words) × DeclareRow names.settings names.ledger old.host new.host status)
    × (new.network ≡ old.network)
OwesPlainRow words Serve old new status =
    (names : IsServe words) × ServeRow names.settings names.ledger old new status
OwesPlainRow words Audit old new status =
    ((name : IsAudit words) × AuditRow name.ledger old.host new.host status)
    × (new.network ≡ old.network)
OwesPlainRow words Migrate old new status =
    ((names : IsMigrate words)
    × MigrateRow names.old_ledger names.new_ledger old.host new.host status)
    × (new.network ≡ old.network)
OwesPlainRow words (Load number) old new status =
    LoadRow number old.host new.host status × (new.network ≡ old.network)
OwesPlainRow words (Mine class count) old new status =
    (names : IsMine words class count)
    × MineRow names.address (record { user = names.user; class = class; count = count }) old new
    status
OwesPlainRow words Feed old new status =
    (names : IsFeed words) × FeedRow names.script names.address old new status
OwesPlainRow words (Proxy count) old new status =
    (names : IsProxy words count)
    × ProxyRow (record {
      user = names.user;
      places = record { peer = names.upstream; address = names.address; doors = count };
    }) old new status
OwesPlainRow words (Durable command) old new status = ⊥

abbrev pub on_disks : Surroundings → HostAndDisks
on_disks all = record { host = all.host; disks = all.disks }

-- what the commands over a disk owe
abbrev pub OwesDurableRow : List (List ℕ) → OnDisk → Surroundings → Surroundings → Status → Type 0
OwesDurableRow words disk.Solo old new status =
    ((names : IsDurableSolo words)
    × DurableSoloRow names.settings names.ledger (on_disks old) (on_disks new) status)
    × (new.network ≡ old.network)
OwesDurableRow words disk.Serve old new status =
    (names : IsDurableServe words) × DurableServeRow names.settings names.ledger old new status
OwesDurableRow words disk.Audit old new status =
    ((name : IsDurableAudit words)
    × DurableAuditRow name.ledger (on_disks old) (on_disks new) status)
    × (new.network ≡ old.network)

-- what each form owes; the others ask for no disk
abbrev pub OwesRow : List (List ℕ) → Form → Surroundings → Surroundings → Status → Type 0
OwesRow words (Durable command) old new status = OwesDurableRow words command old new status
OwesRow words form old new status =
    OwesPlainRow words form (world_in old) (world_in new) status × (new.disks ≡ old.disks)

-- the answer is the number of a status, and what the form owes at it stands
pub record DoesForm (words : List (List ℕ)) (form : Form) (old new : Surroundings) (answer : ℕ) :
    Type 0 where
  pub status : Status
  pub told_as : answer ≡ status_code status
  pub owed : OwesRow words form old new status

-- of the commands over a disk none asks for anything at an address but `durable serve`
abbrev pub StaysOffNetwork : OnDisk → Type 0
StaysOffNetwork disk.Solo = Unit {0}
StaysOffNetwork disk.Serve = ⊥
StaysOffNetwork disk.Audit = Unit {0}

-- the form asks for nothing at an address
abbrev pub IsAlone : Form → Type 0
IsAlone Serve = ⊥
IsAlone (Mine class count) = ⊥
IsAlone Feed = ⊥
IsAlone (Proxy count) = ⊥
IsAlone (Durable command) = StaysOffNetwork command
IsAlone _ = Unit {0}

-- the form doesn't ask to serve whoever calls
abbrev pub WaitsForNobody : Form → Type 0
WaitsForNobody Serve = ⊥
WaitsForNobody (Proxy count) = ⊥
WaitsForNobody (Durable disk.Serve) = ⊥
WaitsForNobody _ = Unit {0}

-- the form asks for no disk
abbrev pub IsOffDisk : Form → Type 0
IsOffDisk (Durable command) = ⊥
IsOffDisk _ = Unit {0}

-- the numbers of a form are within their limits
abbrev pub IsWithinLimits : Form → Type 0
IsWithinLimits (SoloFixed class job) = class ≤ 60
IsWithinLimits Frames = Unit {0}
IsWithinLimits Solo = Unit {0}
IsWithinLimits Declare = Unit {0}
IsWithinLimits Serve = Unit {0}
IsWithinLimits Audit = Unit {0}
IsWithinLimits Migrate = Unit {0}
IsWithinLimits (Load number) = Unit {0}
IsWithinLimits (Mine class count) = (class ≤ 24) × (0 < count)
IsWithinLimits Feed = Unit {0}
IsWithinLimits (Proxy count) = count ≤ 64
IsWithinLimits (Durable command) = Unit {0}
