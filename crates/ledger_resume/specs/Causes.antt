-- Why there is no book (this project's own).
use Rattle.std.specs.Prelude.{Bool, true, false}
use Rattle.pool_history.specs.declared.refusals.BookError.{BookError}
use Rattle.pool_history.specs.declared.refusals.BookError.TheVariants as fault
use Rattle.ledger_disk.specs.declared.opening.DiskOpenError.{DiskOpenError}
use Rattle.ledger_disk.specs.declared.opening.DiskOpenError.TheVariants as opening
use Rattle.ledger_resume.specs.declared.error.ResumeError.{ResumeError}
use Rattle.ledger_resume.specs.declared.error.ResumeError.TheVariants as error
use Rattle.ledger_resume.specs.declared.cause.NoBook.{NoBook}
use Rattle.ledger_resume.specs.declared.cause.NoBook.TheVariants.{Fault, WrongLedger, Memory}

-- the ledger wasn't opened
abbrev pub cause_of_opening : DiskOpenError → NoBook
cause_of_opening opening.Fault = Fault
cause_of_opening opening.Foreign = WrongLedger
cause_of_opening opening.Memory = Memory

-- a record wasn't kept
abbrev pub cause_of_start : BookError → NoBook
cause_of_start fault.KeeperFault = Fault
cause_of_start fault.Memory = Memory

-- the records weren't resumed
abbrev pub cause_of_refusal : ResumeError → NoBook
cause_of_refusal (error.NotALedger place) = WrongLedger
cause_of_refusal (error.Broken number) = WrongLedger
cause_of_refusal (error.Illegal number) = WrongLedger
cause_of_refusal error.Memory = Memory

-- the disk failed
abbrev pub is_disk_fault : NoBook → Bool
is_disk_fault Fault = true
is_disk_fault WrongLedger = false
is_disk_fault Memory = false

-- what is on the disk is none of this pool's
abbrev pub is_wrong : NoBook → Bool
is_wrong Fault = false
is_wrong WrongLedger = true
is_wrong Memory = false
