-- One session of both roles over a book on a disk (this project's own).
use Rattle.std.specs.Prelude.{ℕ, ◌≡◌, false, List}
use Rattle.pool_io.specs.Seen.{SinkSeen, SourceSeen}
use Rattle.ledger_disk.specs.Calls.{DiskSeen}
use Rattle.pool_history.specs.declared.events.Event.{Event}
use Rattle.pool_history.specs.declared.settings.Rules.{Rules}
use Rattle.session_steps.specs.declared.ends.SessionEnd.{SessionEnd}
use Rattle.v2_sessions.specs.Good.{IsGoodEnd}
use Rattle.share_ledger.specs.Books.{BookSeen}
use Rattle.pool_sessions.specs.Solo.{ServesBook, solo_manner}
use Rattle.ledger_resume.specs.Books.{HasNoBook, IsReadyBook, LeavesFronts, keeper_on}
use Rattle.pool_commands.specs.declared.durable_session.DiskEnd.{DiskEnd}
use Rattle.pool_commands.specs.declared.durable_session.DiskEnd.TheVariants as end

-- a source, a sink and a disk
pub record DiskOutsides : Type 0 where
  pub source : SourceSeen
  pub sink : SinkSeen
  pub disk : DiskSeen

-- A book of these rules was ready on the disk, and a session was served on it, as over any book. The
-- disk that came back is its ledger's: whatever a crash left of it at any moment is a front of the
-- history that is left, with all that was answered until then, or this and one event more.
pub record ServedOnDisk (rules : Rules) (idle_turns : ℕ) (old new : DiskOutsides)
    (reason : SessionEnd) : Type 0 where
  pub ready : BookSeen
  pub is_ready : IsReadyBook rules old.disk ready
  pub history : List Event
  pub serves : ServesBook (solo_manner rules false idle_turns) ready.events
      (record { source = old.source; sink = old.sink; keeper = ready.keeper })
      (record { source = new.source; sink = new.sink; keeper = keeper_on new.disk }) reason history
  pub recovers : LeavesFronts new.disk history

-- what was done, by how it ended; without a book nothing was taken or put
abbrev pub ServesOnDisk : Rules → ℕ → DiskOutsides → DiskOutsides → DiskEnd → Type 0
ServesOnDisk rules idle_turns old new (end.NoBook cause) =
    (new.source ≡ old.source) × (new.sink ≡ old.sink) × HasNoBook rules old.disk new.disk cause
ServesOnDisk rules idle_turns old new (end.Over reason) =
    ServedOnDisk rules idle_turns old new reason

-- the input isn't to blame
abbrev pub BlamesNoInput : DiskEnd → Type 0
BlamesNoInput (end.NoBook cause) = Unit {0}
BlamesNoInput (end.Over reason) = IsGoodEnd reason
