-- What `proxy UPSTREAM USER ADDRESS COUNT` owes at each status (this project's own).
use Rattle.std.specs.Prelude.{◌≡◌, ◌⊎◌, ℕ, List, codes}
use Rattle.pool_base.specs.Counts.{Rose}
use Rattle.pool_io.specs.Hosts.{HostSeen}
use Rattle.pool_io.specs.Seen.{SinkSeen}
use Rattle.pool_network.specs.Seen.{LinkSeen}
use Rattle.pool_network.specs.Worlds.{WorldSeen}
use Rattle.door_threads.specs.Failing.{HasFailedDoor, HasFailedItem, HasFailedLink}
use Rattle.pool_history.specs.Summary.{line}
use Rattle.proxy_rules.specs.declared.events.ProxyEvent.{ProxyEvent}
use Rattle.proxy_rules.specs.Steps.{relay_of}
use Rattle.stream_commands.specs.declared.status.Status.{Status}
use Rattle.stream_commands.specs.declared.status.Status.TheVariants as status
use Rattle.stream_commands.specs.Printing.{PrintsText}
use Rattle.stream_commands.specs.Statuses.{status_of_refusal}
use Rattle.proxy_command.specs.declared.serving.Reached.{Reached}
use Rattle.proxy_command.specs.declared.serving.Reached.TheVariants as reached
use Rattle.proxy_command.specs.Serving.{ProxiesOnNetwork, ProxyTask}
use Rattle.proxy_command.specs.Statuses.{status_of_proxied}

-- how many submissions a proxy of these events sent upstream
abbrev pub proxied_text : List ProxyEvent → List ℕ
proxied_text events = line (codes "proxied") (relay_of events).sent

-- what follows on that: the output is asked for, where all were served
abbrev pub FinishesProxy : HostSeen → HostSeen → Reached → Status → Type 0
FinishesProxy old new (reached.Ran ended reason door_faults door_memory) answer =
    (printed : Status) × (answer ≡ status_of_proxied reason door_faults door_memory printed)
    × PrintsText (proxied_text ended) status.Done old new printed
FinishesProxy old new (reached.Unserved error) answer =
    (new ≡ old) × (answer ≡ status_of_refusal error)

-- where each status comes from: 4 from a read of the upstream's link that failed, 5 from a put to it or to
-- the output, and 7 from a failure of the host, of the network or of a door
abbrev pub HasProxyCause : WorldSeen → WorldSeen → Status → Type 0
HasProxyCause old new status.Done = Unit {0}
HasProxyCause old new status.Refused = Unit {0}
HasProxyCause old new status.ReadFault =
    HasFailedLink (λ (link : LinkSeen). link.source.faults) old.network new.network
HasProxyCause old new status.WriteFault =
    HasFailedLink (λ (link : LinkSeen). link.sink.faults) old.network new.network
    ⊎ HasFailedItem (λ (sink : SinkSeen). sink.faults) old.host.streams.sinks new.host.streams.sinks
HasProxyCause old new status.HostFault =
    Rose old.host.streams.faults new.host.streams.faults ⊎ Rose old.network.faults new.network.faults
    ⊎ HasFailedDoor old.network new.network
HasProxyCause old new status.Memory = Unit {0}
HasProxyCause old new status.Limit = Unit {0}
HasProxyCause old new _ = ⊥

-- the row of `proxy UPSTREAM USER ADDRESS COUNT`
pub record ProxyRow (task : ProxyTask) (old new : WorldSeen) (answer : Status) : Type 0 where
  pub reached : Reached
  pub proxies : ProxiesOnNetwork task old.network new.network reached
  pub finishes : FinishesProxy old.host new.host reached answer
  -- whatever the upstream and the miners send
  pub complete : HasProxyCause old new answer
