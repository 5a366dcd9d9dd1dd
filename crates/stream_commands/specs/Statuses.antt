-- The statuses of the program, and their numbers (this project's own).
use Rattle.std.specs.Prelude.{ℕ}
use Rattle.pool_io.specs.declared.host.HostError.{HostError}
use Rattle.pool_io.specs.declared.host.HostError.TheVariants as host
use Rattle.stream_commands.specs.declared.end.End.{End}
use Rattle.stream_commands.specs.declared.end.End.TheVariants as end
use Rattle.stream_commands.specs.declared.status.Status.{Status}
use Rattle.stream_commands.specs.declared.status.Status.TheVariants as status

-- the number of a status
abbrev pub status_code : Status → ℕ
status_code status.Done = 0
status_code status.Usage = 2
status_code status.Refused = 3
status_code status.ReadFault = 4
status_code status.WriteFault = 5
status_code status.KeeperFault = 6
status_code status.HostFault = 7
status_code status.Memory = 8
status_code status.BadSettings = 9
status_code status.Limit = 10
status_code status.WrongLedger = 11

-- the status of a run over a source and a sink
abbrev pub status_of_end : End → Status
status_of_end end.Done = status.Done
status_of_end end.Refused = status.Refused
status_of_end end.IdleOut = status.Limit
status_of_end end.BytesOut = status.Limit
status_of_end end.ReadFault = status.ReadFault
status_of_end end.WriteFault = status.WriteFault
status_of_end end.Memory = status.Memory

-- the status of a host that gave nothing
abbrev pub status_of_refusal : HostError → Status
status_of_refusal host.Failed = status.HostFault
status_of_refusal host.Memory = status.Memory
