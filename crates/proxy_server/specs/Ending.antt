-- How the serving of a proxy ends (this project's own).
use Rattle.std.specs.Prelude.{◌≡◌, ◌↔◌, IsTrue, List, map}
use Rattle.std.specs.Global.{Vec}
use Rattle.session_steps.specs.declared.ends.SessionEnd.TheVariants.{BadSetup}
use Rattle.door_threads.specs.declared.listing.Tended.{Tended}
use Rattle.proxy_rules.specs.declared.events.ProxyEvent.{ProxyEvent}
use Rattle.proxy_server.specs.declared.doors.Proxied.{Proxied}
use Rattle.proxy_server.specs.declared.doors.Proxied.TheVariants as proxied
use Rattle.proxy_server.specs.Parts.{Seeing}
use Rattle.proxy_server.specs.ServingDoors.{HasRunProxy}

-- all were served, and it is said whether no proxy could go on with the upstream; or there was no memory and
-- all comes back as it was
abbrev pub HasProxied :
    {D L : Type 0} → Seeing D L → List ProxyEvent → Vec D → L → Proxied D L → Type 0
HasProxied seeing events doors up (proxied.Ran proxy doors' up' reason bad door_faults door_memory) =
    HasRunProxy seeing.service
    (record { events = events; doors = map seeing.door doors.items; up = seeing.link up })
    (record { events = proxy; doors = map seeing.door doors'.items; up = seeing.link up' }) reason
    door_faults door_memory × (IsTrue bad ↔ (reason ≡ BadSetup))
HasProxied seeing events doors up (proxied.Memory proxy doors' up') =
    (proxy ≡ events) × (doors' ≡ doors) × (up' ≡ up)

-- what is left of a proxy that a desk gave, and of what came back
abbrev pub IsFinished : {D L : Type 0} → List ProxyEvent → Tended D L → Proxied D L → Type 0
IsFinished closed tended (proxied.Ran proxy doors up reason bad door_faults door_memory) =
    (proxy ≡ closed) × (doors ≡ tended.doors) × (up ≡ tended.link) × (reason ≡ tended.link_end)
    × (IsTrue bad ↔ (reason ≡ BadSetup)) × (door_faults ≡ tended.door_faults)
    × (door_memory ≡ tended.door_memory)
IsFinished closed tended (proxied.Memory proxy doors up) = ⊥
