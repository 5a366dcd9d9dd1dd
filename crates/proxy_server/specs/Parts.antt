-- What one thread has in hand, and what it did with it (this project's own).
use Rattle.std.specs.Prelude.{◌≡◌, ℕ, Some}
use Rattle.pool_io.specs.declared.limits.Limits.{Limits}
use Rattle.pool_network.specs.Seen.{DoorSeen, LinkSeen}
use Rattle.door_threads.specs.declared.working.DoorEnd.{DoorEnd}
use Rattle.session_steps.specs.declared.ends.SessionEnd.{SessionEnd}
use Rattle.door_threads.specs.declared.parts.ThreadPart.{ThreadPart}
use Rattle.door_threads.specs.declared.parts.ThreadTask.{ThreadTask}
use Rattle.door_threads.specs.declared.parts.ThreadTask.TheVariants as task
use Rattle.proxy_server.specs.declared.phase.UpPhase.{UpPhase}
use Rattle.proxy_server.specs.Calling.{ProxyPass}
use Rattle.proxy_server.specs.Shifts.{IsMinersShift}
use Rattle.proxy_server.specs.Visits.{VisitsUpstream}

-- after how many Idle answers in a row a link is let go, and a door is asked no more
pub record ProxyService : Type 0 where
  pub idle_turns : ℕ
  pub door_turns : ℕ

abbrev pub service_of : Limits → ProxyService
service_of limits = record { idle_turns = limits.idle_turns; door_turns = limits.door_turns }

-- the same, with what contracts see of the doors and the links in hand
pub record Seeing (D L : Type 0) : Type 0 where
  pub door : D → DoorSeen
  pub link : L → LinkSeen
  pub service : ProxyService

abbrev pub seeing_of : {D L : Type 0} → (D → DoorSeen) → (L → LinkSeen) → ProxyService → Seeing D L
seeing_of door link service = record { door = door; link = link; service = service }

-- a task was done, by these calls of its pass
abbrev pub DoesTask : {D L : Type 0} → Seeing D L → ThreadTask D L → ProxyPass → ThreadTask D L
    → ProxyPass → Type 0
DoesTask seeing (task.Link link ended) old (task.Link link' ended') new =
    (reason : SessionEnd) × (phase : UpPhase) × (ended' ≡ Some reason)
    × VisitsUpstream seeing.service.idle_turns (seeing.link link) (seeing.link link') reason phase
    old new
DoesTask seeing (task.Door door ended) old (task.Door door' ended') new =
    (reason : DoorEnd) × (ended' ≡ Some reason)
    × IsMinersShift seeing.service.idle_turns seeing.service.door_turns (seeing.door door)
    (seeing.door door') old new reason
DoesTask seeing (task.Link link ended) old (task.Door door' ended') new = ⊥
DoesTask seeing (task.Door door ended) old (task.Link link' ended') new = ⊥

-- a part and its pass, before its task was done and after it
abbrev pub IsAttended : {D L : Type 0} → Seeing D L → ThreadPart D L × ProxyPass
    → ThreadPart D L × ProxyPass → Type 0
IsAttended seeing old new = DoesTask seeing old.0.task old.1 new.0.task new.1
