-- What a proxy did on a network (this project's own).
use Rattle.std.specs.Prelude.{◌≡◌, ◌⊎◌, ℕ, List, [], ◌∷◌}
use Rattle.pool_io.specs.declared.host.HostError.{HostError}
use Rattle.pool_io.specs.declared.host.HostError.TheVariants as host
use Rattle.pool_network.specs.Networks.{NetworkSeen}
use Rattle.pool_network.specs.Seen.{DoorSeen, LinkSeen}
use Rattle.door_threads.specs.Places.{GivesBoth, IsUnserved, Places}
use Rattle.stream_commands.specs.declared.TheConstants.{IDLE_TURNS}
use Rattle.session_steps.specs.declared.ends.SessionEnd.{SessionEnd}
use Rattle.proxy_rules.specs.declared.events.ProxyEvent.{ProxyEvent}
use Rattle.proxy_rules.specs.declared.events.ProxyEvent.TheVariants as event
use Rattle.proxy_server.specs.Parts.{ProxyService}
use Rattle.proxy_server.specs.ServingDoors.{HasRunProxy}
use Rattle.proxy_command.specs.declared.serving.Reached.{Reached}
use Rattle.proxy_command.specs.declared.serving.Reached.TheVariants as reached

-- for whom the upstream's channel is opened, where the upstream is, where miners come, and how many are
-- served at once
pub record ProxyTask : Type 0 where
  pub user : List ℕ
  pub places : Places

-- how long a link is waited for, and a caller
abbrev pub usual_service : ProxyService
usual_service = record { idle_turns = IDLE_TURNS; door_turns = IDLE_TURNS }

-- a proxy begins with its user, and shows the difficulty of class 32 as 1
abbrev pub start_for : List ℕ → List ProxyEvent
start_for user = event.Start user 32 ∷ []

-- The upstream's link was served by the first worker, and each door by a later one, all by one proxy.
pub record ProxiedOnNetwork (task : ProxyTask) (old new : NetworkSeen) (ended : List ProxyEvent)
    (reason : SessionEnd) (door_faults door_memory : ℕ) : Type 0 where
  pub link : LinkSeen
  pub link_back : LinkSeen
  pub doors : List DoorSeen
  pub doors_back : List DoorSeen
  pub gives : GivesBoth task.places old new link link_back doors doors_back
  pub ran : HasRunProxy usual_service
      (record { events = start_for task.user; doors = doors; up = link })
      (record { events = ended; doors = doors_back; up = link_back }) reason door_faults
      door_memory

-- there was no memory for a proxy, and nothing was asked for
abbrev pub HasNoProxy : NetworkSeen → NetworkSeen → HostError → Type 0
HasNoProxy old new error = (new ≡ old) × (error ≡ host.Memory)

-- what was done
abbrev pub ProxiesOnNetwork : ProxyTask → NetworkSeen → NetworkSeen → Reached → Type 0
ProxiesOnNetwork task old new (reached.Ran ended reason door_faults door_memory) =
    ProxiedOnNetwork task old new ended reason door_faults door_memory
ProxiesOnNetwork task old new (reached.Unserved error) =
    HasNoProxy old new error ⊎ IsUnserved task.places old new error
