-- What the next run finds after a crash (this project's own).
use Rattle.std.specs.Prelude.{ℕ, ◌+◌, ◌≡◌, ◌⊎◌, ◌≤◌, List, [], ◌++◌, Option, Some, length, take}
use Rattle.pool_base.specs.Lists.{Begins}
use Rattle.ledger_disk.specs.Calls.{DiskSeen}
use Rattle.ledger_disk.specs.Disks.{opened_disk}
use Rattle.ledger_disk.specs.Moments.{MayLeave, Moment}
use Rattle.ledger_disk.specs.Crashes.{MayFind, stored_entries}
use Rattle.pool_history.specs.declared.events.Event.{Event}
use Rattle.ledger_records.specs.Keeping.{IsKept}
use Rattle.ledger_resume.specs.Histories.{IsHistoryOf}
use Rattle.pool_history.specs.declared.settings.Rules.{Rules}
use Rattle.share_ledger.specs.Books.{BookSeen}
use Rattle.ledger_resume.specs.Books.{IsReadyBook, LeavesFronts}

-- These records are found behind a moment when so many events of a history were there for good: they
-- are those of a legal history, or none; that one has all these events, and one more at most.
pub record AreGoneOnWith (history : List Event) (count : ℕ) (records : List (List ℕ)) : Type 0 where
  pub past : List Event
  pub found : ((records ≡ []) × (past ≡ [])) ⊎ IsHistoryOf records past
  pub answered : Begins (take count history) past
  pub few : length past ≤ count + 1

-- so it is of whatever a crash may leave of a disk whose book has a history
abbrev pub CrashesAreGoneOnWith : Type 0
CrashesAreGoneOnWith =
    (disk : DiskSeen) (log : List Moment) (history : List Event) (count : ℕ)
    (found : Option (List (List ℕ)))
    → disk.log ≡ Some log → LeavesFronts disk history → IsKept history → MayFind log count found
    → (records : List (List ℕ)) × (found ≡ Some records) × AreGoneOnWith history count records

-- a crash at this moment of a disk, or at an earlier one, when so many events were there for good, left
-- these bytes
pub record LeftBy (log : List Moment) (count : ℕ) (left : List ℕ) : Type 0 where
  pub later : List Moment
  pub until : List Moment
  pub parts : log ≡ later ++ until
  pub leaves : MayLeave until left
  pub stored : length (stored_entries until) ≡ count

-- The history of a book that is ready on what a crash left of a disk, whose book had a history, begins
-- with all that was there for good when the machine crashed.
abbrev pub NextRunsGoOn : Type 0
NextRunsGoOn =
    (disk : DiskSeen) (log : List Moment) (history : List Event) (count : ℕ) (left : List ℕ)
    → disk.log ≡ Some log → LeavesFronts disk history → IsKept history → LeftBy log count left
    → (rules : Rules) (book : BookSeen) → IsReadyBook rules (opened_disk (Some left)) book
    → Begins (take count history) book.events
