-- How the first caller of a door is waited for (this project's own).
use Rattle.std.specs.Prelude.{ℕ, ◌≡◌, ◌<◌, suc, zero, Result, Ok, Err}
use Rattle.pool_network.specs.declared.door.Came.{Came}
use Rattle.pool_network.specs.declared.door.Came.TheVariants as came
use Rattle.pool_network.specs.Doors.{AnswersSo}
use Rattle.pool_network.specs.Seen.{DoorSeen, LinkSeen}
use Rattle.stream_commands.specs.declared.TheConstants.{IDLE_TURNS}
use Rattle.stream_commands.specs.declared.status.Status.{Status}
use Rattle.stream_commands.specs.declared.status.Status.TheVariants as status
use Rattle.peer_commands.specs.declared.caller.NoCaller.{NoCaller}
use Rattle.peer_commands.specs.declared.caller.NoCaller.TheVariants as no_caller

-- the door was asked so many times, and each time nobody had called
unfoldable pub HasWaited : ℕ → DoorSeen → DoorSeen → Type 0
HasWaited zero old new = new ≡ old
HasWaited (suc turns) old new =
    (before : DoorSeen) × HasWaited turns old before × AnswersSo before new came.Idle

-- after fewer of them than are waited for, it answered so
pub record AnswersInTime (old new : DoorSeen) (answer : Came LinkSeen) : Type 0 where
  pub turns : ℕ
  pub few : turns < IDLE_TURNS
  pub before : DoorSeen
  pub waited : HasWaited turns old before
  pub last : AnswersSo before new answer

-- somebody called, or nobody did: for too long, or since the door gave up
abbrev pub WaitsForCaller : DoorSeen → DoorSeen → Result LinkSeen NoCaller → Type 0
WaitsForCaller old new (Ok link) = AnswersInTime old new (came.Caller link)
WaitsForCaller old new (Err no_caller.Idle) = HasWaited IDLE_TURNS old new
WaitsForCaller old new (Err no_caller.Closed) = AnswersInTime old new came.Closed
WaitsForCaller old new (Err no_caller.Failed) = AnswersInTime old new came.Failed
WaitsForCaller old new (Err no_caller.Memory) = AnswersInTime old new came.Memory

-- the status of a feed to which nobody came
abbrev pub status_of_no_caller : NoCaller → Status
status_of_no_caller no_caller.Idle = status.Limit
status_of_no_caller no_caller.Closed = status.Refused
status_of_no_caller no_caller.Failed = status.HostFault
status_of_no_caller no_caller.Memory = status.Memory

-- what is seen of an answer
abbrev pub caller_seen : {L : Type 0} → (L → LinkSeen) → Result L NoCaller → Result LinkSeen NoCaller
caller_seen seen (Ok link) = Ok (seen link)
caller_seen seen (Err cause) = Err cause
