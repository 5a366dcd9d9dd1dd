-- The status of a session that a command served (this project's own).
use Rattle.pool_history.specs.declared.refusals.BookError.TheVariants as fault
use Rattle.stream_commands.specs.declared.status.Status.{Status}
use Rattle.stream_commands.specs.declared.status.Status.TheVariants as status
use Rattle.session_steps.specs.declared.ends.SessionEnd.{SessionEnd}
use Rattle.session_steps.specs.declared.ends.SessionEnd.TheVariants as end
use Rattle.pool_sessions.specs.declared.alone.SoloEnd.{SoloEnd}
use Rattle.pool_sessions.specs.declared.alone.SoloEnd.TheVariants as solo

-- the status of a session's end
abbrev pub status_of_session : SessionEnd → Status
status_of_session end.Done = status.Done
status_of_session (end.CutFrame bytes) = status.Refused
status_of_session (end.TooLong length) = status.Refused
status_of_session end.BadSetup = status.Refused
status_of_session (end.BadMessage kind) = status.Refused
status_of_session end.LineTooLong = status.Refused
status_of_session end.IdleOut = status.Limit
status_of_session end.BytesOut = status.Limit
status_of_session end.PoolFull = status.Limit
status_of_session end.ReadFault = status.ReadFault
status_of_session end.WriteFault = status.WriteFault
status_of_session end.LedgerFault = status.KeeperFault
status_of_session end.Memory = status.Memory

-- the same where none may have begun
abbrev pub status_of_solo : SoloEnd → Status
status_of_solo (solo.Unbegun fault.KeeperFault) = status.KeeperFault
status_of_solo (solo.Unbegun fault.Memory) = status.Memory
status_of_solo (solo.Over reason) = status_of_session reason
