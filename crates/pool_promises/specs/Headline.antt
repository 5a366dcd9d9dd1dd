-- That each row of a command that serves keeps the pool's promise, with no other premise (this project's
-- own).
use Rattle.std.proofs.Common.{inl, inr}
use Rattle.std.specs.Prelude.{◌≡◌, ℕ, Bool, false, Result, Ok, Err, List, [], ◌∷◌}
use Rattle.pool_base.specs.Lists.{Begins}
use Rattle.ledger_disk.specs.Calls.{DiskSeen}
use Rattle.pool_io.specs.Hosts.{HostSeen}
use Rattle.pool_io.specs.Seen.{KeeperSeen}
use Rattle.pool_history.specs.declared.events.Event.TheVariants as event
use Rattle.pool_history.specs.declared.settings.Rules.{Rules}
use Rattle.pool_network.specs.Networks.{NetworkSeen}
use Rattle.pool_network.specs.Worlds.{WorldSeen}
use Rattle.pool_settings.specs.declared.opening.NoSettings.{NoSettings}
use Rattle.pool_settings.specs.declared.settings.Settings.{Settings}
use Rattle.share_ledger.specs.Books.{BookSeen}
use Rattle.stream_commands.specs.declared.status.Status.{Status}
use Rattle.pool_sessions.specs.declared.alone.SoloEnd.{SoloEnd}
use Rattle.pool_sessions.specs.declared.alone.SoloEnd.TheVariants as solo
use Rattle.pool_sessions.specs.Solo.{IsServed, Outsides, solo_manner}
use Rattle.pool_commands.specs.declared.durable_session.DiskEnd.{DiskEnd}
use Rattle.pool_commands.specs.declared.durable_session.DiskEnd.TheVariants as ends
use Rattle.pool_commands.specs.DurableSessions.{DiskOutsides, ServesOnDisk}
use Rattle.pool_commands.specs.DurableSoloing.{DiskRow, DiskSessionRow, DurableSoloRow, GoesOnWithDisk, HostAndDisks}
use Rattle.pool_commands.specs.SoloRow.{GoesOnFrom, KeeperRow, SessionCommandRow, SessionRow}
use Rattle.pool_commands.specs.DurableServing.{DurableServeRow, ServesDiskAfterSettings, ServesNetworkOnDisk, ServesWithDisk}
use Rattle.pool_commands.specs.ServeRow.{ServeRow, ServesAfterSettings, ServesOnBook, ServesWithKeeper, places_by, service_by}
use Rattle.pool_commands.specs.Serving.{ReachedSeen, Served, ServesOnNetwork, Unserved}
use Rattle.pool_commands.specs.Surroundings.{Surroundings, around}
use Rattle.pool_promises.specs.Promise.{KeepsItsPromise, KeepsSession}

-- a book that was served on keeps the promise; or no session began on it
abbrev pub KeepsByReached : (settings : Settings) (begun : BookSeen) (old new : NetworkSeen)
    (reached : ReachedSeen)
    → ServesOnNetwork (service_by settings) (places_by settings) old new begun reached → Type 0
KeepsByReached settings begun old new
    (Served ended reason ledger_faults door_faults door_memory) serves =
    KeepsItsPromise (service_by settings) settings.rules
    (record { book = begun; doors = serves.doors; feed = serves.link })
    (record { book = ended; doors = serves.doors_back; feed = serves.link_back })
    reason ledger_faults door_faults door_memory serves.ran
KeepsByReached settings begun old new (Unserved ended error) serves = Unit {0}

-- the book that `serve` begins with has the settings' Start alone
abbrev pub KeepsByBook : (settings : Settings) (keeper : KeeperSeen) (old new : WorldSeen)
    (status : Status) → ServesOnBook settings keeper old new status → Type 0
KeepsByBook settings keeper old new status (inl served) =
    (served.begun.events ≡ event.Start settings.rules ∷ [])
    × KeepsByReached settings served.begun old.network new.network served.reached served.serves
KeepsByBook settings keeper old new status (inr no_start) = Unit {0}

abbrev pub KeepsByKeeper : (settings : Settings) (ledger : List ℕ) (old new : WorldSeen)
    (status : Status) → ServesWithKeeper settings ledger old new status → Type 0
KeepsByKeeper settings ledger old new status (inl kept) =
    KeepsByBook settings kept.0 (record { host = kept.1; network = old.network }) new status kept.3
KeepsByKeeper settings ledger old new status (inr refused) = Unit {0}

abbrev pub KeepsBySettings : (ledger : List ℕ) (answer : Result Settings NoSettings)
    (old new : WorldSeen) (status : Status) → ServesAfterSettings ledger answer old new status → Type 0
KeepsBySettings ledger (Ok settings) old new status row =
    KeepsByKeeper settings ledger old new status row
KeepsBySettings ledger (Err no_settings) old new status row = Unit {0}

-- `serve SETTINGS LEDGER` keeps the pool's promise, whatever it did
abbrev pub ServeKeepsItsPromise : Type 0
ServeKeepsItsPromise =
    (settings_name ledger_name : List ℕ) (old new : WorldSeen) (status : Status)
    → (row : ServeRow settings_name ledger_name old new status)
    → KeepsBySettings ledger_name row.serves.0
    (record { host = row.serves.1; network = old.network }) new status row.serves.3

-- the history of the book that `durable serve` goes on with begins with the settings' Start
abbrev pub KeepsByReady : (settings : Settings) (disk : DiskSeen) (old new : Surroundings)
    (status : Status) → ServesNetworkOnDisk settings disk old new status → Type 0
KeepsByReady settings disk old new status (inl served) =
    Begins (event.Start settings.rules ∷ []) served.ready.events
    × KeepsByReached settings served.ready old.network new.network served.reached served.serves
KeepsByReady settings disk old new status (inr unservable) = Unit {0}

abbrev pub KeepsByDisk : (settings : Settings) (ledger : List ℕ) (old new : Surroundings)
    (status : Status) → ServesWithDisk settings ledger old new status → Type 0
KeepsByDisk settings ledger old new status (inl kept) =
    KeepsByReady settings kept.0 (around old.host old.network kept.1) new status kept.3
KeepsByDisk settings ledger old new status (inr refused) = Unit {0}

abbrev pub KeepsByDiskSettings : (ledger : List ℕ) (answer : Result Settings NoSettings)
    (old new : Surroundings) (status : Status) → ServesDiskAfterSettings ledger answer old new status
    → Type 0
KeepsByDiskSettings ledger (Ok settings) old new status row =
    KeepsByDisk settings ledger old new status row
KeepsByDiskSettings ledger (Err no_settings) old new status row = Unit {0}

-- so does `durable serve SETTINGS LEDGER`, on the history that it found
abbrev pub DurableServeKeepsItsPromise : Type 0
DurableServeKeepsItsPromise =
    (settings_name ledger_name : List ℕ) (old new : Surroundings) (status : Status)
    → (row : DurableServeRow settings_name ledger_name old new status)
    → KeepsByDiskSettings ledger_name row.serves.0 (around row.serves.1 old.network old.disks) new
    status row.serves.3

-- a session that was served on a book of its own keeps the promise, from the settings' Start on
abbrev pub KeepsByEnd : (declares : Bool) (rules : Rules) (idle_turns : ℕ) (old new : Outsides)
    (end : SoloEnd) → IsServed rules declares idle_turns old new end → Type 0
KeepsByEnd declares rules idle_turns old new (solo.Unbegun cause) did = Unit {0}
KeepsByEnd declares rules idle_turns old new (solo.Over reason) did =
    KeepsSession rules (solo_manner rules declares idle_turns) (event.Start rules ∷ []) did.0
    did.1.steps

abbrev pub KeepsByStreams : (declares : Bool) (settings : Settings) (keeper : KeeperSeen)
    (old new : HostSeen) (status : Status) → SessionRow declares settings keeper old new status → Type 0
KeepsByStreams declares settings keeper old new status (inl ran) =
    KeepsByEnd declares settings.rules settings.limits.idle_turns ran.2.given ran.2.back ran.0
    ran.2.served.did
KeepsByStreams declares settings keeper old new status (inr refused) = Unit {0}

abbrev pub KeepsByFile : (declares : Bool) (settings : Settings) (ledger : List ℕ) (old new : HostSeen)
    (status : Status) → KeeperRow declares settings ledger old new status → Type 0
KeepsByFile declares settings ledger old new status (inl kept) =
    KeepsByStreams declares settings kept.0 kept.1 new status kept.3
KeepsByFile declares settings ledger old new status (inr refused) = Unit {0}

abbrev pub KeepsByFileSettings : (declares : Bool) (ledger : List ℕ)
    (answer : Result Settings NoSettings) (old new : HostSeen) (status : Status)
    → GoesOnFrom declares ledger answer old new status → Type 0
KeepsByFileSettings declares ledger (Ok settings) old new status row =
    KeepsByFile declares settings ledger old new status row
KeepsByFileSettings declares ledger (Err no_settings) old new status row = Unit {0}

-- `solo SETTINGS LEDGER` keeps the promise of its one session, and so does `declare SETTINGS LEDGER`
abbrev pub SoloKeepsItsPromise : Type 0
SoloKeepsItsPromise =
    (declares : Bool) (settings_name ledger_name : List ℕ) (old new : HostSeen) (status : Status)
    → (row : SessionCommandRow declares settings_name ledger_name old new status)
    → KeepsByFileSettings declares ledger_name row.0 row.1 new status row.3

-- on a disk, the history of the book that was ready begins with the settings' Start
abbrev pub KeepsByDiskEnd : (rules : Rules) (idle_turns : ℕ) (old new : DiskOutsides) (end : DiskEnd)
    → ServesOnDisk rules idle_turns old new end → Type 0
KeepsByDiskEnd rules idle_turns old new (ends.NoBook cause) served = Unit {0}
KeepsByDiskEnd rules idle_turns old new (ends.Over reason) served =
    Begins (event.Start rules ∷ []) served.ready.events
    × KeepsSession rules (solo_manner rules false idle_turns) served.ready.events served.history
    served.serves.did.steps

abbrev pub KeepsByDiskStreams : (settings : Settings) (disk : DiskSeen) (old new : HostAndDisks)
    (status : Status) → DiskSessionRow settings disk old new status → Type 0
KeepsByDiskStreams settings disk old new status (inl ran) =
    KeepsByDiskEnd settings.rules settings.limits.idle_turns ran.2.given ran.2.back ran.0 ran.2.served
KeepsByDiskStreams settings disk old new status (inr refused) = Unit {0}

abbrev pub KeepsBySoloDisk : (settings : Settings) (ledger : List ℕ) (old new : HostAndDisks)
    (status : Status) → DiskRow settings ledger old new status → Type 0
KeepsBySoloDisk settings ledger old new status (inl kept) =
    KeepsByDiskStreams settings kept.0 (record { host = old.host; disks = kept.1 }) new status kept.3
KeepsBySoloDisk settings ledger old new status (inr refused) = Unit {0}

abbrev pub KeepsBySoloDiskSettings : (ledger : List ℕ) (answer : Result Settings NoSettings)
    (old new : HostAndDisks) (status : Status) → GoesOnWithDisk ledger answer old new status → Type 0
KeepsBySoloDiskSettings ledger (Ok settings) old new status row =
    KeepsBySoloDisk settings ledger old new status row
KeepsBySoloDiskSettings ledger (Err no_settings) old new status row = Unit {0}

-- so does `durable solo SETTINGS LEDGER`, on the history that it found
abbrev pub DurableSoloKeepsItsPromise : Type 0
DurableSoloKeepsItsPromise =
    (settings_name ledger_name : List ℕ) (old new : HostAndDisks) (status : Status)
    → (row : DurableSoloRow settings_name ledger_name old new status)
    → KeepsBySoloDiskSettings ledger_name row.0 (record { host = row.1; disks = old.disks }) new status
    row.3
