-- What `durable serve SETTINGS LEDGER` owes at each status (this project's own).
use Rattle.std.specs.Prelude.{ℕ, ◌≡◌, ◌⊎◌, List, Result, Ok, Err}
use Rattle.pool_base.specs.Counts.{Rose}
use Rattle.pool_io.specs.declared.host.HostError.{HostError}
use Rattle.pool_io.specs.Hosts.{CameBack, HostSeen}
use Rattle.ledger_disk.specs.Calls.{DiskSeen}
use Rattle.ledger_disk.specs.Disks.{DisksSeen, opened_disk}
use Rattle.pool_settings.specs.declared.opening.NoSettings.{NoSettings}
use Rattle.pool_settings.specs.declared.settings.Settings.{Settings}
use Rattle.pool_settings.specs.Opened.{OpensSettings, status_of_no_settings}
use Rattle.share_ledger.specs.Books.{BookSeen}
use Rattle.stream_commands.specs.Printing.{PrintsText}
use Rattle.stream_commands.specs.Statuses.{status_of_refusal}
use Rattle.stream_commands.specs.declared.status.Status.{Status}
use Rattle.stream_commands.specs.declared.status.Status.TheVariants as status
use Rattle.door_threads.specs.Failing.{HasFailedItem}
use Rattle.pool_commands.specs.ServeRow.{HasReasonBy, places_by, service_by}
use Rattle.pool_commands.specs.Serving.{ReachedSeen, Served, ServesOnNetwork, Unserved}
use Rattle.pool_commands.specs.ServeStatuses.{status_of_served}
use Rattle.pool_commands.specs.ServeWords.{report_text}
use Rattle.ledger_resume.specs.declared.cause.NoBook.{NoBook}
use Rattle.ledger_resume.specs.declared.cause.NoBook.TheVariants as none
use Rattle.ledger_resume.specs.Books.{HasNoBook, IsReadyBook, LeavesFronts, keeper_on}
use Rattle.pool_commands.specs.Given.{IsDiskGiven, IsRefusedDisk, with_disk_back}
use Rattle.pool_commands.specs.DurableStatuses.{status_of_no_book}
use Rattle.pool_commands.specs.Surroundings.{Surroundings, around, world_in}

-- The disk of a book came back, and nothing else changed: whatever a crash left of it at any moment is
-- a front of the book's history, with all that was answered until then, or this and one event more.
pub record GivesBookBack (old new : DisksSeen) (book : BookSeen) : Type 0 where
  pub disk : DiskSeen
  pub keeps : keeper_on disk ≡ book.keeper
  pub recovers : LeavesFronts disk book.events
  pub back : new ≡ with_disk_back old disk

-- what follows on the serving
abbrev pub FinishesOnDisk : (old new : HostSeen) → (had has : DisksSeen) → ReachedSeen → Status → Type 0
FinishesOnDisk old new had has (Served ended reason ledger_faults door_faults door_memory) answer =
    (printed : Status)
    × (answer ≡ status_of_served ledger_faults door_faults door_memory printed)
    × PrintsText (report_text reason ended.events) status.Done old new printed
    × GivesBookBack had has ended
FinishesOnDisk old new had has (Unserved ended error) answer =
    (answer ≡ status_of_refusal error) × (new ≡ old) × GivesBookBack had has ended

-- a book was ready on the disk and was served on, and its disk came back
pub record ServedByDisk (settings : Settings) (disk : DiskSeen) (old new : Surroundings)
    (status : Status) : Type 0 where
  pub ready : BookSeen
  pub is_ready : IsReadyBook settings.rules disk ready
  pub reached : ReachedSeen
  pub serves : ServesOnNetwork (service_by settings) (places_by settings) old.network new.network
      ready reached
  pub finishes : FinishesOnDisk old.host new.host old.disks new.disks reached status

-- no book was ready, or there was no memory to serve on one: the disk came back, and nothing else was
-- asked for
pub record IsUnservable (settings : Settings) (disk : DiskSeen) (old new : Surroundings)
    (status : Status) : Type 0 where
  pub cause : NoBook
  pub back : DiskSeen
  pub none : HasNoBook settings.rules disk back cause ⊎ ((back ≡ disk) × (cause ≡ none.Memory))
  pub host : new.host ≡ old.host
  pub network : new.network ≡ old.network
  pub disks : new.disks ≡ with_disk_back old.disks back
  pub answered : status ≡ status_of_no_book cause

-- with a disk that was given
abbrev pub ServesNetworkOnDisk : Settings → DiskSeen → Surroundings → Surroundings → Status → Type 0
ServesNetworkOnDisk settings disk old new status =
    ServedByDisk settings disk old new status ⊎ IsUnservable settings disk old new status

-- with settings: a disk is asked for, and then the network
abbrev pub ServesWithDisk : Settings → List ℕ → Surroundings → Surroundings → Status → Type 0
ServesWithDisk settings ledger old new status =
    ((disk : DiskSeen) × (given : DisksSeen) × IsDiskGiven ledger old.disks given disk
    × ServesNetworkOnDisk settings disk
    (around old.host old.network given) new status)
    ⊎ ((error : HostError) × (status ≡ status_of_refusal error)
    × IsRefusedDisk ledger old.disks new.disks error
    × (new.host ≡ old.host) × (new.network ≡ old.network))

-- what follows on the settings file's reading
abbrev pub ServesDiskAfterSettings :
    List ℕ → Result Settings NoSettings → Surroundings → Surroundings → Status → Type 0
ServesDiskAfterSettings ledger (Ok settings) old new status =
    ServesWithDisk settings ledger old new status
ServesDiskAfterSettings ledger (Err no_settings) old new status =
    (new ≡ old) × (status ≡ status_of_no_settings no_settings)

-- the settings file is read and handed back, then a disk, a link to the feed and doors are asked for,
-- up to what is refused; when all sessions are over, the output is asked for
abbrev pub ServesDiskByNames : List ℕ → List ℕ → Surroundings → Surroundings → Status → Type 0
ServesDiskByNames settings_name ledger_name old new status =
    (answer : Result Settings NoSettings) × (read : HostSeen)
    × OpensSettings settings_name old.host read answer
    × ServesDiskAfterSettings ledger_name answer
    (around read old.network old.disks) new status

-- a disk that came back has failed
abbrev pub HasFailedDisk : DisksSeen → DisksSeen → Type 0
HasFailedDisk old new = HasFailedItem (λ (disk : DiskSeen). disk.faults) old.disks new.disks

-- the settings were read, and the disk that came back was found to be none of a pool's with their rules
pub record HasWrongDisk (settings_name ledger_name : List ℕ) (old new : Surroundings) : Type 0 where
  pub settings : Settings
  pub read : HostSeen
  pub opens : OpensSettings settings_name old.host read (Ok settings)
  pub back : DiskSeen
  pub found : HasNoBook settings.rules (opened_disk (old.disks.holds ledger_name)) back none.WrongLedger
  pub disks : CameBack old.disks.disks new.disks.disks back

-- where each status comes from, whatever the sessions send: 11 from a disk that is none of this pool's;
-- 7 from what gives disks too; the others as of `serve`, with the disk for the keeper
abbrev pub HasDiskReason : List ℕ → List ℕ → Surroundings → Surroundings → Status → Type 0
HasDiskReason settings_name ledger_name old new answer =
    ((answer ≡ status.HostFault) × Rose old.disks.faults new.disks.faults)
    ⊎ HasReasonBy (HasFailedDisk old.disks new.disks)
    (HasWrongDisk settings_name ledger_name old new) settings_name (world_in old) (world_in new)
    answer

-- the row of `durable serve SETTINGS LEDGER`
pub record DurableServeRow (settings_name ledger_name : List ℕ) (old new : Surroundings)
    (status : Status) : Type 0 where
  pub serves : ServesDiskByNames settings_name ledger_name old new status
  pub complete : HasDiskReason settings_name ledger_name old new status
