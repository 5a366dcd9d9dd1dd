-- That what the commands over a disk do is a run on it (this project's own).
use Rattle.std.specs.Prelude.{ℕ, ◌≡◌, List, Some}
use Rattle.pool_io.specs.declared.host.HostError.{HostError}
use Rattle.pool_io.specs.Seen.{SinkSeen}
use Rattle.ledger_disk.specs.Calls.{DiskSeen}
use Rattle.ledger_disk.specs.Disks.{opened_disk}
use Rattle.pool_history.specs.declared.events.Event.{Event}
use Rattle.pool_history.specs.declared.settings.Rules.{Rules}
use Rattle.pool_settings.specs.declared.settings.Settings.{Settings}
use Rattle.session_steps.specs.declared.ends.SessionEnd.{SessionEnd}
use Rattle.share_ledger.specs.Books.{BookSeen}
use Rattle.stream_commands.specs.declared.status.Status.{Status}
use Rattle.pool_commands.specs.Serving.{ReachedSeen, Served, Unserved}
use Rattle.ledger_resume.specs.declared.cause.NoBook.{NoBook}
use Rattle.ledger_resume.specs.Runs.{HasGoneOn, HasStood}
use Rattle.pool_commands.specs.declared.durable_session.DiskEnd.TheVariants as end
use Rattle.pool_commands.specs.DurableAuditing.{AuditsDisk, HasNoSink}
use Rattle.pool_commands.specs.Given.{with_disk_back}
use Rattle.pool_commands.specs.DurableServing.{GivesBookBack, IsUnservable, ServedByDisk}
use Rattle.pool_commands.specs.DurableSessions.{DiskOutsides, ServedOnDisk, ServesOnDisk}
use Rattle.pool_commands.specs.DurableSoloing.{HostAndDisks, LacksStreams}
use Rattle.pool_commands.specs.Surroundings.{Surroundings}

-- A session on a disk is a run that went on with what was found there, to the session's history,
-- whenever the machine crashes and whatever that leaves.
abbrev pub SessionsAreRuns : Type 0
SessionsAreRuns =
    (rules : Rules) (idle_turns : ℕ) (old new : DiskOutsides) (reason : SessionEnd)
    (found : List ℕ) (count : ℕ) (left : List ℕ) → old.disk ≡ opened_disk (Some found)
    → (served : ServedOnDisk rules idle_turns old new reason)
    → HasGoneOn (record {
      rules = rules;
      found = found;
      disk = new.disk;
      history = served.history;
      count = count;
      left = left;
    })

-- the book that is left
abbrev pub book_left : ReachedSeen → BookSeen
book_left (Served ended reason ledger_faults door_faults door_memory) = ended
book_left (Unserved ended error) = ended

-- So are many sessions on a disk, to the history of the book that is left.
abbrev pub ServingsAreRuns : Type 0
ServingsAreRuns =
    (settings : Settings) (disk : DiskSeen) (old new : Surroundings) (status : Status)
    (found : List ℕ) (count : ℕ) (left : List ℕ) → disk ≡ opened_disk (Some found)
    → (served : ServedByDisk settings disk old new status)
    → (back : GivesBookBack old.disks new.disks (book_left served.reached))
    × HasGoneOn (record {
      rules = settings.rules;
      found = found;
      disk = back.disk;
      history = (book_left served.reached).events;
      count = count;
      left = left;
    })

-- Such a run has stood, whatever its history is said to be, and whenever the machine crashes.
abbrev pub StandsOn : Rules → List ℕ → DiskSeen → Type 0
StandsOn rules found disk =
    (history : List Event) (count : ℕ) (left : List ℕ)
    → HasStood (record {
      rules = rules;
      found = found;
      disk = disk;
      history = history;
      count = count;
      left = left;
    })

-- a disk that came back is one on which such a run has stood
abbrev pub ComesBackStood : Rules → List ℕ → DiskSeen → HostAndDisks → HostAndDisks → Type 0
ComesBackStood rules found back old new =
    (new.disks ≡ with_disk_back old.disks back) × StandsOn rules found back

-- So is what else is done with a disk: where no book was ready for a session, or for many; where an
-- audit opened it; and where the host then gave no streams for a session, or no output for an audit.
pub record OthersStand : Type 0 where
  pub unready : (rules : Rules) (idle_turns : ℕ) (old new : DiskOutsides) (cause : NoBook)
      (found : List ℕ) → old.disk ≡ opened_disk (Some found)
      → ServesOnDisk rules idle_turns old new (end.NoBook cause) → StandsOn rules found new.disk
  pub unservable : (settings : Settings) (disk : DiskSeen) (old new : Surroundings)
      (status : Status) (found : List ℕ) → disk ≡ opened_disk (Some found)
      → (stands : IsUnservable settings disk old new status)
      → StandsOn settings.rules found stands.back
  pub audited : (rules : Rules) (disk back : DiskSeen) (old new : SinkSeen) (status : Status)
      (found : List ℕ) → disk ≡ opened_disk (Some found) → AuditsDisk disk back old new status
      → StandsOn rules found back
  pub unstreamed : (rules : Rules) (disk : DiskSeen) (old new : HostAndDisks) (error : HostError)
      (found : List ℕ) → disk ≡ opened_disk (Some found) → LacksStreams disk old new error
      → ComesBackStood rules found disk old new
  pub unprinted : (rules : Rules) (disk : DiskSeen) (old new : HostAndDisks) (error : HostError)
      (found : List ℕ) → disk ≡ opened_disk (Some found) → HasNoSink disk old new error
      → ComesBackStood rules found disk old new
