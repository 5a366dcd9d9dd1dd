-- Runs one after the other, each on what a crash left of the one before it (this project's own).
use Rattle.std.specs.Prelude.{ℕ, ◌≡◌, ◌⊎◌, ◌≤◌, false, List, [], ◌∷◌, ◌++◌, Some, length, take}
use Rattle.std.specs.List.{AllByRecursion}
use Rattle.pool_base.specs.Lists.{Begins}
use Rattle.ledger_disk.specs.Calls.{DiskSeen}
use Rattle.ledger_disk.specs.Disks.{opened_disk}
use Rattle.ledger_disk.specs.Moments.{MayLeave, Moment}
use Rattle.ledger_disk.specs.Crashes.{stored_entries}
use Rattle.pool_history.specs.declared.events.Event.{Event}
use Rattle.pool_history.specs.declared.settings.Rules.{Rules}
use Rattle.ledger_records.specs.Keeping.{IsKept}
use Rattle.share_ledger.specs.Books.{BookSeen}
use Rattle.share_ledger.specs.Recovery.{KeepsBeginning}
use Rattle.ledger_resume.specs.declared.cause.NoBook.{NoBook}
use Rattle.ledger_resume.specs.Causes.{is_wrong}
use Rattle.ledger_resume.specs.Books.{HasNoBook, IsOpenedLedger, IsReadyBook, LeavesFronts, keeper_on}

-- A run of a pool that was broken off by a crash: its rules, the bytes that it found on its disk, the
-- disk with its moments, its book's history, how many events of it were there for good when the
-- machine crashed, and the bytes that were left.
pub record DiskRun : Type 0 where
  pub rules : Rules
  pub found : List ℕ
  pub disk : DiskSeen
  pub history : List Event
  pub count : ℕ
  pub left : List ℕ

-- a book was ready on what was found, and its history went on as the run's; the records that were there
-- for good at the first moment are those that the book began with
pub record HasGoneOn (run : DiskRun) : Type 0 where
  pub ready : BookSeen
  pub is_ready : IsReadyBook run.rules (opened_disk (Some run.found)) ready
  pub begins : Begins ready.events run.history
  pub is_kept : IsKept run.history
  pub begun : KeepsBeginning ready.keeper (keeper_on run.disk)
  pub leaves : LeavesFronts run.disk run.history

-- none was; or none was asked for: the ledger was opened at most
abbrev pub HasStood : DiskRun → Type 0
HasStood run =
    ((cause : NoBook) × HasNoBook run.rules (opened_disk (Some run.found)) run.disk cause)
    ⊎ ((records : List (List ℕ)) × IsOpenedLedger (opened_disk (Some run.found)) run.disk records)
    ⊎ (run.disk ≡ opened_disk (Some run.found))

-- it crashed at a moment since its disk was opened
pub record HasCrashed (run : DiskRun) : Type 0 where
  pub later : List Moment
  pub moment : Moment
  pub earlier : List Moment
  pub told : run.disk.log ≡ Some (later ++ moment ∷ earlier)
  pub leaves : MayLeave (moment ∷ earlier) run.left
  pub stored : length (stored_entries (moment ∷ earlier)) ≡ run.count

-- the first found these bytes, and each other what the one before it left
abbrev pub FollowEachOther : List ℕ → List DiskRun → Type 0
FollowEachOther found [] = Unit {0}
FollowEachOther found (run ∷ runs) =
    (run.found ≡ found) × (HasGoneOn run ⊎ HasStood run) × HasCrashed run
    × FollowEachOther run.left runs

-- What was there for good when a run crashed stands at the front of each later run's history, through
-- any number of crashes between them, and of runs that had no book.
abbrev pub NothingStoredIsLost : Type 0
NothingStoredIsLost =
    (found : List ℕ) (run : DiskRun) (runs : List DiskRun) → FollowEachOther found (run ∷ runs)
    → HasGoneOn run
    → AllByRecursion
    (λ later. HasGoneOn later → Begins (take run.count run.history) later.history) runs

-- Where the Start was there for good when a run crashed, no later run of the same rules is told that the
-- ledger is another's.
abbrev pub OwnLedgersAreNotRefused : Type 0
OwnLedgersAreNotRefused =
    (found : List ℕ) (run : DiskRun) (runs : List DiskRun) → FollowEachOther found (run ∷ runs)
    → HasGoneOn run → 1 ≤ run.count
    → AllByRecursion
    (λ later. later.rules ≡ run.rules → (back : DiskSeen) (cause : NoBook)
    → HasNoBook later.rules (opened_disk (Some later.found)) back cause → is_wrong cause ≡ false) runs
