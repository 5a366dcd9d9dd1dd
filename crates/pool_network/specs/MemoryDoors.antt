-- What contracts see of the door in memory.
use Rattle.std.specs.Prelude.{Some, map}
use Rattle.pool_network.specs.declared.door.Arrival.{Arrival}
use Rattle.pool_network.specs.declared.door.Arrival.TheVariants as arrival
use Rattle.pool_network.specs.declared.memory.door.MemDoor.{MemDoor}
use Rattle.pool_network.specs.Seen.{DoorSeen, LinkSeen}

-- an answer that is still to come, with what is seen of the caller's link
abbrev pub arrival_seen : {L : Type 0} → (L → LinkSeen) → Arrival L → Arrival LinkSeen
arrival_seen seen (arrival.Caller link) = arrival.Caller (seen link)
arrival_seen seen arrival.Idle = arrival.Idle

-- it tells all that will come, and all that came back
abbrev pub door_seen : {L : Type 0} → (L → LinkSeen) → MemDoor L → DoorSeen
door_seen seen door = record {
  faults = door.failing.faults;
  asked = door.failing.calls;
  coming = Some (map (arrival_seen seen) door.coming.items);
  out = door.links.lent;
  back = Some (map seen door.links.back);
}
