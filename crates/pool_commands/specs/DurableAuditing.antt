-- What `durable audit LEDGER` owes at each status (this project's own).
use Rattle.std.specs.Prelude.{ℕ, ◌≡◌, ◌⊎◌, false, List, [], ◌∷◌, Option, Some}
use Rattle.pool_io.specs.declared.host.HostError.{HostError}
use Rattle.pool_io.specs.declared.opening.Opening.TheVariants as opening
use Rattle.pool_io.specs.declared.turn.Turn.{Turn}
use Rattle.pool_io.specs.declared.turn.Turn.TheVariants as turn
use Rattle.pool_io.specs.Hosts.{CameBack}
use Rattle.pool_io.specs.Lending.{nothing_left}
use Rattle.pool_io.specs.Openings.{openings_and}
use Rattle.pool_io.specs.Outside.{CountsFailure}
use Rattle.pool_io.specs.Seen.{SinkSeen}
use Rattle.pool_io.specs.Steps.{steps_of}
use Rattle.ledger_disk.specs.Calls.{DiskSeen}
use Rattle.ledger_disk.specs.Disks.{DisksSeen}
use Rattle.pool_history.specs.Ledger.{magic_2}
use Rattle.ledger_audit.specs.Duty.{audit_duty}
use Rattle.ledger_audit.specs.Judging.{in_a_row}
use Rattle.stream_commands.specs.Ending.{DecideEnd, EndsCommand, is_read_fault, is_write_fault}
use Rattle.stream_commands.specs.Printing.{HasNoOutput}
use Rattle.stream_commands.specs.Statuses.{status_of_end, status_of_refusal}
use Rattle.stream_commands.specs.declared.end.End.{End}
use Rattle.stream_commands.specs.declared.status.Status.{Status}
use Rattle.stream_commands.specs.declared.status.Status.TheVariants as status
use Rattle.ledger_resume.specs.declared.cause.NoBook.{NoBook}
use Rattle.ledger_resume.specs.Books.{IsOpenedLedger, IsUnopened}
use Rattle.pool_commands.specs.Given.{IsDiskGiven, IsRefusedDisk, with_disk_back}
use Rattle.pool_commands.specs.DurableSoloing.{HostAndDisks}
use Rattle.pool_commands.specs.DurableStatuses.{status_of_no_book}

-- what is audited: the bytes of the records in a row; of no record the magic alone, which is the ledger
-- of the history without events
abbrev pub audited_bytes : List (List ℕ) → List ℕ
audited_bytes [] = magic_2
audited_bytes (record_bytes ∷ records) = in_a_row (record_bytes ∷ records)

-- bytes that come at once, if there are any
abbrev pub turns_of : List ℕ → List Turn
turns_of [] = []
turns_of (byte ∷ bytes) = turn.Piece (byte ∷ bytes) ∷ []

-- an audit of bytes that came at once ran, and put what it found to a sink
pub record HasAuditedDisk (bytes : List ℕ) (old new : SinkSeen) (end : End) : Type 0 where
  pub left : Option (List Turn)
  -- what the end says of the bytes and of what was put
  pub ran : EndsCommand audit_duty (Some (turns_of bytes)) left old.held new.held end
  -- the other way round: the bytes decide the end, but for a failed put or lack of memory
  pub decided : DecideEnd audit_duty (steps_of (turns_of bytes)) end
  pub unread : is_read_fault (Some end) ≡ false
  pub writes : CountsFailure (is_write_fault (Some end)) old.faults new.faults

-- it ran, or there was no memory to begin with
abbrev pub AuditsBytes : List ℕ → SinkSeen → SinkSeen → Status → Type 0
AuditsBytes bytes old new answer =
    ((end : End) × (answer ≡ status_of_end end) × HasAuditedDisk bytes old new end)
    ⊎ ((answer ≡ status.Memory) × (new ≡ old))

abbrev pub AuditsInMemory : List (List ℕ) → SinkSeen → SinkSeen → Status → Type 0
AuditsInMemory records old new status = AuditsBytes (audited_bytes records) old new status

-- the ledger on a disk was opened, and its records audited; or it wasn't
abbrev pub AuditsDisk : DiskSeen → DiskSeen → SinkSeen → SinkSeen → Status → Type 0
AuditsDisk disk back old new status =
    ((records : List (List ℕ)) × IsOpenedLedger disk back records × AuditsInMemory records old new status)
    ⊎ ((cause : NoBook) × (status ≡ status_of_no_book cause) × IsUnopened disk back cause
    × (new ≡ old))

-- a sink was given beside the disk, and both came back
pub record AuditedToOutput (disk : DiskSeen) (old new : HostAndDisks) (status : Status) : Type 0 where
  pub back : DiskSeen
  pub sink : SinkSeen
  pub audits : AuditsDisk disk back (record { faults = 0; held = old.host.streams.output }) sink status
  pub sinks : CameBack old.host.streams.sinks new.host.streams.sinks sink
  pub streams : new.host.streams ≡ record old.host.streams {
    sinks = new.host.streams.sinks;
    output = nothing_left old.host.streams.output;
  }
  pub openings : new.host.openings ≡ openings_and old.host.openings opening.Output
  pub disks : new.disks ≡ with_disk_back old.disks back

-- the host gave no output: the disk came back as it was
pub record HasNoSink (disk : DiskSeen) (old new : HostAndDisks) (error : HostError) : Type 0 where
  pub host : HasNoOutput old.host new.host error
  pub disks : new.disks ≡ with_disk_back old.disks disk

-- with a disk that was given
abbrev pub AuditsWithDisk : DiskSeen → HostAndDisks → HostAndDisks → Status → Type 0
AuditsWithDisk disk old new status =
    AuditedToOutput disk old new status
    ⊎ ((error : HostError) × (status ≡ status_of_refusal error) × HasNoSink disk old new error)

-- the row of `durable audit LEDGER`
abbrev pub DurableAuditRow : List ℕ → HostAndDisks → HostAndDisks → Status → Type 0
DurableAuditRow ledger old new status =
    ((disk : DiskSeen) × (given : DisksSeen) × IsDiskGiven ledger old.disks given disk
    × AuditsWithDisk disk (record { host = old.host; disks = given }) new status)
    ⊎ ((error : HostError) × (status ≡ status_of_refusal error)
    × IsRefusedDisk ledger old.disks new.disks error × (new.host ≡ old.host))
