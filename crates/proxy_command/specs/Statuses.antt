-- The status of `proxy` (this project's own).
use Rattle.std.specs.Prelude.{ℕ, ◌==◌, if◌then◌else◌, nat_le}
use Rattle.session_steps.specs.declared.ends.SessionEnd.{SessionEnd}
use Rattle.session_steps.specs.declared.ends.SessionEnd.TheVariants as end
use Rattle.stream_commands.specs.declared.status.Status.{Status}
use Rattle.stream_commands.specs.declared.status.Status.TheVariants as status
use Rattle.stream_commands.specs.Statuses.{status_code}

-- what the end of the upstream's link is answered with, if nothing else failed
abbrev pub status_of_upstream : SessionEnd → Status
status_of_upstream (end.CutFrame bytes) = status.Refused
status_of_upstream (end.TooLong length) = status.Refused
status_of_upstream end.BadSetup = status.Refused
status_of_upstream (end.BadMessage kind) = status.Refused
status_of_upstream end.ReadFault = status.ReadFault
status_of_upstream end.WriteFault = status.WriteFault
status_of_upstream end.Memory = status.Memory
status_of_upstream end.IdleOut = status.Limit
status_of_upstream end.BytesOut = status.Limit
status_of_upstream end.Done = status.Done
status_of_upstream end.LineTooLong = status.Done
status_of_upstream end.PoolFull = status.Done
status_of_upstream end.LedgerFault = status.Done

-- what failed doors are answered with
abbrev pub status_of_doors : ℕ → Status
status_of_doors door_faults = if door_faults == 0 then status.Done else status.HostFault

-- what doors that had no memory for a caller are answered with
abbrev pub status_of_starved : ℕ → Status
status_of_starved door_memory = if door_memory == 0 then status.Done else status.Memory

-- of two causes the one with the lesser number; 0 is none
abbrev pub first_cause : Status → Status → Status
first_cause one other =
    if status_code one == 0 then other
    else if status_code other == 0 then one
    else if nat_le (status_code one) (status_code other) then one else other

-- the first cause of all, by their numbers: the upstream's end, the doors, the printing
abbrev pub status_of_proxied : SessionEnd → ℕ → ℕ → Status → Status
status_of_proxied reason door_faults door_memory printed =
    first_cause (status_of_upstream reason)
    (first_cause (status_of_doors door_faults)
    (first_cause (status_of_starved door_memory) printed))
