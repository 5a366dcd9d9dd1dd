-- A part may go to another thread where what it has in hand may, and all threads may look at how
-- sessions are held.
use denote.RattleType.{RattleType}
use denote.Param.Send.{IsSend, sendable}
use denote.Param.SendFields.{declared_send}
use Rattle.std.proofs.Crossing.{crosses}
use Rattle.door_threads.specs.contracts.parts.ThreadPart as ThreadPart
use Rattle.door_threads.specs.contracts.parts.ThreadTask as ThreadTask

task_send : (D L : RattleType) → IsSend D → IsSend L → IsSend (ThreadTask.the_row D L)
task_send D L d l = search (sendable, crosses) depth 40

pub part_send : (D L : RattleType) → IsSend D → IsSend L → IsSend (ThreadPart.the_row D L)
part_send D L d l = declared_send (ThreadPart.the_type D L) (task_send D L d l, (search sendable, tt))
