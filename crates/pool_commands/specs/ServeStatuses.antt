-- The status of `serve` (this project's own).
use Rattle.std.specs.Prelude.{ℕ, ◌==◌, if◌then◌else◌}
use Rattle.pool_history.specs.declared.refusals.BookError.{BookError}
use Rattle.pool_history.specs.declared.refusals.BookError.TheVariants as fault
use Rattle.stream_commands.specs.declared.status.Status.{Status}
use Rattle.stream_commands.specs.declared.status.Status.TheVariants as status

-- where the first record wasn't kept
abbrev pub status_of_start : BookError → Status
status_of_start fault.KeeperFault = status.KeeperFault
status_of_start fault.Memory = status.Memory

-- the keeper's faults come before the doors', and these before what the printing is answered with
abbrev pub status_by_faults : ℕ → ℕ → Status → Status
status_by_faults ledger_faults door_faults printed =
    if ledger_faults == 0 then (if door_faults == 0 then printed else status.HostFault)
    else status.KeeperFault

-- lack of memory comes before all of them
abbrev pub status_of_served : ℕ → ℕ → ℕ → Status → Status
status_of_served ledger_faults door_faults door_memory status.Memory = status.Memory
status_of_served ledger_faults door_faults door_memory printed =
    if door_memory == 0 then status_by_faults ledger_faults door_faults printed else status.Memory
