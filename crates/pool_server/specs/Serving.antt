-- What is left when many sessions were served on one book (this project's own).
use Rattle.std.specs.Prelude.{◌≡◌, ℕ, ◌+◌, List, [], ◌∷◌, map}
use Rattle.std.specs.List.{AllByRecursion}
use Rattle.pool_base.specs.Lists.{Begins}
use Rattle.pool_base.specs.Calls.{Parted, RiseFrom}
use Rattle.pool_network.specs.Seen.{DoorSeen, LinkSeen}
use Rattle.pool_history.specs.declared.events.Role.TheVariants as role
use Rattle.pool_history.specs.Calls.{GoodPoolCalls, PoolCall}
use Rattle.ledger_records.specs.Keeping.{IsKept}
use Rattle.share_ledger.specs.Books.{BookSeen, KeepsInstead}
use Rattle.share_ledger.specs.Recovery.{KeepsBeginning}
use Rattle.session_steps.specs.declared.ends.SessionEnd.{SessionEnd}
use Rattle.pool_sessions.specs.Courses.{Course, calls_on}
use Rattle.pool_server.specs.Visits.{IsVisit}
use Rattle.pool_server.specs.Shifts.{IsShift, Shift, calls_at}
use Rattle.pool_server.specs.Counting.{capped, failed_in, faulted_in, starved_in}
use Rattle.pool_server.specs.Parts.{Service, manner_of}
use Rattle.pool_server.specs.Tending.{all_calls}

-- a book, its doors and a feed's link, as they came and as they went
pub record Hall : Type 0 where
  pub book : BookSeen
  pub doors : List DoorSeen
  pub feed : LinkSeen

-- the shifts are those of this worker and the next ones, each at its door
abbrev pub AreShifts : Service → ℕ → List Shift → Type 0
AreShifts service worker [] = Unit {0}
AreShifts service worker (shift ∷ shifts) =
    IsShift service.terms (manner_of service role.Miner) worker service.door_turns shift
    × AreShifts service (worker + 1) shifts

-- the numbers of these calls rise
abbrev pub NumbersRise : List PoolCall → Type 0
NumbersRise calls = (known : ℕ) × RiseFrom 0 calls known

-- The first worker served the feed's link by one session, and each later one had a shift at its door.
-- The history begins with the one that came, is legal and has records; a keeper that told its records
-- then tells this history's ledger, its first moment being the same. The calls of all these sessions
-- are good, and are all that became of the history that came; the numbers of each worker's rise.
pub record HasRun (service : Service) (old new : Hall) (reason : SessionEnd)
    (ledger_faults door_faults door_memory : ℕ) : Type 0 where
  pub course : Course
  pub shifts : List Shift
  pub fed : IsVisit service.terms (manner_of service role.Feed) 0 (record {
    before = old.feed;
    after = new.feed;
    course = course;
    reason = reason;
  })
  pub worked : AreShifts service 1 shifts
  pub doors_before : map (λ shift. shift.before) shifts ≡ old.doors
  pub doors_after : map (λ shift. shift.after) shifts ≡ new.doors
  pub begins : Begins old.book.events new.book.events
  pub kept : IsKept new.book.events
  pub ledger : KeepsInstead old.book.keeper.records new.book.keeper.records new.book.events
  pub begun : KeepsBeginning old.book.keeper new.book.keeper
  pub good : GoodPoolCalls new.book.events (all_calls course shifts)
  pub parted : Parted old.book.events new.book.events old.book.keeper.faults
      new.book.keeper.faults (all_calls course shifts)
  pub rise : NumbersRise (calls_on course)
      × AllByRecursion (λ shift. NumbersRise (calls_at shift.answers)) shifts
  pub ledger_faults_are : ledger_faults ≡ capped (faulted_in (all_calls course shifts))
  pub door_faults_are : door_faults ≡ capped (failed_in (map (λ shift. shift.reason) shifts))
  pub door_memory_is : door_memory ≡ capped (starved_in (map (λ shift. shift.reason) shifts))
