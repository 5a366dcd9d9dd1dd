-- What one thread has in hand, and what it did with it (this project's own).
use Rattle.std.specs.Prelude.{◌≡◌, ℕ, false, Some}
use Rattle.pool_io.specs.declared.limits.Limits.{Limits}
use Rattle.pool_network.specs.Seen.{DoorSeen, LinkSeen}
use Rattle.pool_history.specs.declared.events.Role.{Role}
use Rattle.pool_history.specs.declared.events.Role.TheVariants as role
use Rattle.session_steps.specs.declared.ends.SessionEnd.{SessionEnd}
use Rattle.session_steps.specs.declared.manner.Manner.{Manner}
use Rattle.v1_translate.specs.State.{Terms}
use Rattle.pool_server.specs.Calling.{PoolPass}
use Rattle.pool_server.specs.Visits.{Asking, ServesLink}
use Rattle.door_threads.specs.declared.working.DoorEnd.{DoorEnd}
use Rattle.pool_server.specs.Shifts.{IsWorked}
use Rattle.door_threads.specs.declared.parts.ThreadPart.{ThreadPart}
use Rattle.door_threads.specs.declared.parts.ThreadTask.{ThreadTask}
use Rattle.door_threads.specs.declared.parts.ThreadTask.TheVariants as task

-- the rules, with the class whose difficulty is shown as 1 to miners of Stratum V1, and after how many
-- Idle answers in a row a session ends and a door is asked no more
pub record Service : Type 0 where
  pub terms : Terms
  pub idle_turns : ℕ
  pub door_turns : ℕ

abbrev pub service_of : Terms → Limits → Service
service_of terms limits = record {
  terms = terms;
  idle_turns = limits.idle_turns;
  door_turns = limits.door_turns;
}

abbrev pub manner_of : Service → Role → Manner
manner_of service role = record {
  role = role;
  rolling = service.terms.rules.version_rolling;
  declares = false;
  idle_turns = service.idle_turns;
}

-- the same, with what contracts see of the doors and the links in hand
pub record Seeing (D L : Type 0) : Type 0 where
  pub door : D → DoorSeen
  pub link : L → LinkSeen
  pub service : Service

abbrev pub seeing_of : {D L : Type 0} → (D → DoorSeen) → (L → LinkSeen) → Service → Seeing D L
seeing_of door link service = record { door = door; link = link; service = service }

abbrev pub asking_of : {D L : Type 0} → ThreadPart D L → PoolPass → Asking
asking_of part pass = record { pass = pass; faults = part.faults }

-- a task was done, by these calls of its pass
abbrev pub DoesTask :
    {D L : Type 0} → Seeing D L → ThreadTask D L → Asking → ThreadTask D L → Asking → Type 0
DoesTask seeing (task.Link link ended) old (task.Link link' ended') new =
    (reason : SessionEnd) × (ended' ≡ Some reason)
    × ServesLink seeing.service.terms (manner_of seeing.service role.Feed) (seeing.link link)
    (seeing.link link') old new reason
DoesTask seeing (task.Door door ended) old (task.Door door' ended') new =
    (reason : DoorEnd) × (ended' ≡ Some reason)
    × IsWorked seeing.service.terms (manner_of seeing.service role.Miner) seeing.service.door_turns
    (seeing.door door) (seeing.door door') old new reason
DoesTask seeing (task.Link link ended) old (task.Door door' ended') new = ⊥
DoesTask seeing (task.Door door ended) old (task.Link link' ended') new = ⊥

-- a part and its pass, before its task was done and after it
abbrev pub IsAttended :
    {D L : Type 0} → Seeing D L → ThreadPart D L × PoolPass → ThreadPart D L × PoolPass → Type 0
IsAttended seeing old new =
    DoesTask seeing old.0.task (asking_of old.0 old.1) new.0.task (asking_of new.0 new.1)
