-- What is found on a disk that is opened, and the book that is made of it (this project's own).
use Rattle.std.specs.Prelude.{ℕ, ◌≡◌, ◌<◌, ◌⊎◌, true, false, List, [], ◌∷◌, Option, Some}
use Rattle.std.specs.Option.{option_map}
use Rattle.pool_base.specs.Lists.{Begins}
use Rattle.pool_io.specs.Crashes.{IsSettledWith}
use Rattle.pool_io.specs.Outside.{CountsFailure}
use Rattle.pool_io.specs.Seen.{KeeperSeen}
use Rattle.ledger_disk.specs.Calls.{DiskSeen, WhereTold}
use Rattle.ledger_disk.specs.Disks.{opened_disk}
use Rattle.ledger_disk.specs.Moments.{last_content}
use Rattle.ledger_disk.specs.Crashes.{FindsJust, MayBeFound, MayFind, Throughout, counts_told, entries_told, stored_entries}
use Rattle.ledger_disk.specs.Entries.{IsForeign, Opens, entries_on}
use Rattle.pool_history.specs.declared.events.Event.{Event}
use Rattle.pool_history.specs.declared.events.Event.TheVariants as event
use Rattle.pool_history.specs.declared.settings.Rules.{Rules}
use Rattle.ledger_records.specs.Keeping.{IsKept}
use Rattle.ledger_resume.specs.Histories.{IsHistoryOf}
use Rattle.share_ledger.specs.Books.{BookSeen, KeepsInstead}
use Rattle.share_ledger.specs.Recovery.{IsRecoverable, KeepsBeginning}
use Rattle.ledger_resume.specs.declared.cause.NoBook.{NoBook}
use Rattle.ledger_resume.specs.declared.leaving.TheConstants.{WORKERS}
use Rattle.ledger_resume.specs.Causes.{is_disk_fault, is_wrong}
use Rattle.ledger_resume.specs.Leaving.{LeaveUpTo}

-- a disk that was just opened by its name, on which nothing is pending
abbrev pub IsJustOpened : DiskSeen → Type 0
IsJustOpened disk = (held : Option (List ℕ)) × (disk ≡ opened_disk held)

-- the ledger on a disk, as a keeper
abbrev pub keeper_on : DiskSeen → KeeperSeen
keeper_on disk = record {
  faults = disk.faults;
  records = entries_told disk;
  stored = counts_told disk;
}

-- Whatever a crash left on this disk, at whichever moment so far, is a front of this history with each
-- event that was there for good at that moment, or this and one event more that could come next; it
-- opens as a ledger.
abbrev pub LeavesFronts : DiskSeen → List Event → Type 0
LeavesFronts disk history = IsRecoverable (keeper_on disk) (MayBeFound disk) history

-- a crash at any moment since this disk was opened leaves just the records that it held
abbrev pub LeavesJustFound : (old new : DiskSeen) → Type 0
LeavesJustFound old new =
    WhereTold old.log (λ log. FindsJust (entries_on (last_content log)) (MayFind log) (MayBeFound new))

-- and at each moment since then just these were there for good
abbrev pub StoresJustFound : (old new : DiskSeen) → Type 0
StoresJustFound old new =
    WhereTold old.log
    (λ log. Throughout (λ now. stored_entries now ≡ entries_on (last_content log)) log new.log)

-- the ledger on a disk was opened: it holds these records, and a crash at any moment leaves just them
pub record IsOpenedLedger (disk ledger : DiskSeen) (records : List (List ℕ)) : Type 0 where
  pub holds : WhereTold disk.log (λ log. Opens (last_content log) (Some records))
  pub told : entries_told ledger ≡ option_map (λ log. records) disk.log
  pub settled : IsSettledWith (counts_told ledger) (MayBeFound ledger) records
  pub crash : LeavesJustFound disk ledger
  pub during : StoresJustFound disk ledger
  pub unfailed : ledger.faults ≡ disk.faults

-- It wasn't: the disk is foreign, it failed, or memory ran out. A foreign one is as it was.
pub record IsUnopened (disk back : DiskSeen) (cause : NoBook) : Type 0 where
  pub foreign : is_wrong cause ≡ true → WhereTold disk.log (λ log. IsForeign (last_content log))
  pub untouched : WhereTold disk.log (λ log. IsForeign (last_content log) → back.log ≡ Some log)
  pub crash : LeavesJustFound disk back
  pub during : StoresJustFound disk back
  pub counts : CountsFailure (is_disk_fault cause) disk.faults back.faults

-- the records are those of a history that begins with the Start of these rules
pub record AreOfPool (rules : Rules) (records : List (List ℕ)) (past : List Event) : Type 0 where
  pub history : IsHistoryOf records past
  pub starts : Begins (event.Start rules ∷ []) past

-- they are of none
abbrev pub AreOfNoPool : Rules → List (List ℕ) → Type 0
AreOfNoPool rules records = (past : List Event) → AreOfPool rules records past → ⊥

-- there was no record, and a history was begun
pub record IsBegun (rules : Rules) (records : List (List ℕ)) (events : List Event) : Type 0 where
  pub unused : records ≡ []
  pub begins : events ≡ event.Start rules ∷ []

-- the history of the records went on, once each worker's Leave was answered
pub record GoesOnFromRecords (rules : Rules) (records : List (List ℕ)) (events : List Event) : Type 0 where
  pub past : List Event
  pub of_pool : AreOfPool rules records past
  pub left : LeaveUpTo WORKERS past events

-- a book over an opened ledger with these records, all of whose appends were answered; its keeper's first
-- moment is the ledger's
pub record IsMadeOf (rules : Rules) (ledger : DiskSeen) (records : List (List ℕ)) (book : BookSeen) :
    Type 0 where
  pub made : IsBegun rules records book.events ⊎ GoesOnFromRecords rules records book.events
  pub is_kept : IsKept book.events
  pub kept : KeepsInstead (entries_told ledger) book.keeper.records book.events
  pub begun : KeepsBeginning (keeper_on ledger) book.keeper
  pub unfailed : book.keeper.faults ≡ ledger.faults

-- a book of these rules is ready on a disk that was opened
abbrev pub IsReadyBook : Rules → DiskSeen → BookSeen → Type 0
IsReadyBook rules disk book =
    (ledger : DiskSeen) × (records : List (List ℕ)) × IsOpenedLedger disk ledger records
    × IsMadeOf rules ledger records book

-- the Start of a new history wasn't kept: the disk holds no record for good
pub record HasNotBegun (records : List (List ℕ)) (ledger disk : DiskSeen) (cause : NoBook) : Type 0
  where
    pub unused : records ≡ []
    pub same : entries_told disk ≡ entries_told ledger
    pub leaves : LeavesFronts disk []
    pub own : is_wrong cause ≡ false
    pub counts : CountsFailure (is_disk_fault cause) ledger.faults disk.faults

-- records were found and not gone on with: they are of no history with this Start, or memory ran out; the
-- disk is as it was opened
pub record IsNotResumed (rules : Rules) (records : List (List ℕ)) (ledger disk : DiskSeen)
    (cause : NoBook) : Type 0 where
  pub found : records ≡ [] → ⊥
  pub same : disk ≡ ledger
  pub others : is_wrong cause ≡ true → AreOfNoPool rules records
  pub unfailed : is_disk_fault cause ≡ false

-- a worker's Leave wasn't answered: the history stands as those before it left it
pub record HasNotLeft (rules : Rules) (records : List (List ℕ)) (ledger disk : DiskSeen)
    (cause : NoBook) : Type 0 where
  pub past : List Event
  pub of_pool : AreOfPool rules records past
  pub worker : ℕ
  pub few : worker < WORKERS
  pub events : List Event
  pub left : LeaveUpTo worker past events
  pub is_kept : IsKept events
  pub kept : KeepsInstead (entries_told ledger) (entries_told disk) events
  pub begun : KeepsBeginning (keeper_on ledger) (keeper_on disk)
  pub leaves : LeavesFronts disk events
  pub own : is_wrong cause ≡ false
  pub counts : CountsFailure (is_disk_fault cause) ledger.faults disk.faults

-- the same of a book by itself: each worker's Leave was answered
pub record HasEndedSessions (old new : BookSeen) : Type 0 where
  pub left : LeaveUpTo WORKERS old.events new.events
  pub is_kept : IsKept new.events
  pub kept : KeepsInstead old.keeper.records new.keeper.records new.events
  pub begun : KeepsBeginning old.keeper new.keeper
  pub unfailed : new.keeper.faults ≡ old.keeper.faults

-- or one wasn't
pub record HasUnendedSession (old : BookSeen) (disk : DiskSeen) (cause : NoBook) : Type 0 where
  pub worker : ℕ
  pub few : worker < WORKERS
  pub events : List Event
  pub left : LeaveUpTo worker old.events events
  pub is_kept : IsKept events
  pub kept : KeepsInstead old.keeper.records (entries_told disk) events
  pub begun : KeepsBeginning old.keeper (keeper_on disk)
  pub leaves : LeavesFronts disk events
  pub own : is_wrong cause ≡ false
  pub counts : CountsFailure (is_disk_fault cause) old.keeper.faults disk.faults

-- no book was made over an opened ledger
abbrev pub IsNotMadeOf : Rules → DiskSeen → List (List ℕ) → DiskSeen → NoBook → Type 0
IsNotMadeOf rules ledger records disk cause =
    HasNotBegun records ledger disk cause ⊎ IsNotResumed rules records ledger disk cause
    ⊎ HasNotLeft rules records ledger disk cause

-- no book is ready on a disk that was opened
abbrev pub HasNoBook : Rules → DiskSeen → DiskSeen → NoBook → Type 0
HasNoBook rules disk back cause =
    IsUnopened disk back cause
    ⊎ ((ledger : DiskSeen) × (records : List (List ℕ)) × IsOpenedLedger disk ledger records
    × IsNotMadeOf rules ledger records back cause)
