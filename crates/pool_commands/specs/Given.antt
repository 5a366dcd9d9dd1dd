-- What one disk that is asked for by its name does to what gives disks (this project's own).
use Rattle.std.specs.Prelude.{ℕ, ◌≡◌, List, Ok, Err}
use Rattle.pool_io.specs.declared.host.HostError.{HostError}
use Rattle.pool_io.specs.Lending.{lent_one, with_back}
use Rattle.pool_io.specs.Outside.{CountsFailure, is_failed_gift}
use Rattle.ledger_disk.specs.Calls.{DiskSeen}
use Rattle.ledger_disk.specs.Disks.{DisksSeen, names_after, opened_disk}

-- the disk of this name was given: nothing on it is pending
pub record IsDiskGiven (name : List ℕ) (old new : DisksSeen) (disk : DiskSeen) : Type 0 where
  pub opened : disk ≡ opened_disk (old.holds name)
  pub lent : new ≡ record old {
    calls = names_after {A = Unit {0}} name (Ok tt) old.calls;
    disks = lent_one old.disks;
  }

-- it wasn't
pub record IsRefusedDisk (name : List ℕ) (old new : DisksSeen) (error : HostError) : Type 0 where
  pub stays : new ≡ record old {
    faults = new.faults;
    calls = names_after {A = Unit {0}} name (Err error) old.calls;
  }
  pub counts : CountsFailure (is_failed_gift {A = Unit {0}} (Err error)) old.faults new.faults

-- a disk that was out has come back
abbrev pub with_disk_back : DisksSeen → DiskSeen → DisksSeen
with_disk_back old disk = record old { disks = with_back old.disks disk }
