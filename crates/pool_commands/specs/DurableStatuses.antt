-- The statuses of the commands over a disk (this project's own).
use Rattle.ledger_resume.specs.declared.cause.NoBook.{NoBook}
use Rattle.ledger_resume.specs.declared.cause.NoBook.TheVariants as none
use Rattle.stream_commands.specs.declared.status.Status.{Status}
use Rattle.stream_commands.specs.declared.status.Status.TheVariants as status
use Rattle.pool_commands.specs.SoloStatuses.{status_of_session}
use Rattle.pool_commands.specs.declared.durable_session.DiskEnd.{DiskEnd}
use Rattle.pool_commands.specs.declared.durable_session.DiskEnd.TheVariants as end

-- no book was ready
abbrev pub status_of_no_book : NoBook → Status
status_of_no_book none.Fault = status.KeeperFault
status_of_no_book none.WrongLedger = status.WrongLedger
status_of_no_book none.Memory = status.Memory

-- a session over a disk
abbrev pub status_of_disk_end : DiskEnd → Status
status_of_disk_end (end.NoBook cause) = status_of_no_book cause
status_of_disk_end (end.Over reason) = status_of_session reason
