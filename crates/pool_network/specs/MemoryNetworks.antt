-- What contracts see of the network in memory.
use Rattle.std.specs.Prelude.{Some, map}
use Rattle.pool_io.specs.Lending.{lending_seen}
use Rattle.pool_network.specs.Networks.{NetworkSeen}
use Rattle.pool_network.specs.Seen.{DoorSeen, LinkSeen}
use Rattle.pool_network.specs.declared.memory.network.MemNetwork.{MemNetwork}

-- it tells its calls, and what it will give
abbrev pub network_seen :
    {L D : Type 0} → (L → LinkSeen) → (D → DoorSeen) → MemNetwork L D → NetworkSeen
network_seen link door network = record {
  faults = network.faults;
  calls = Some network.calls.items;
  to_dial = Some (map link network.to_dial.items);
  to_open = Some (map door network.to_open.items);
  links = lending_seen link network.links;
  doors = lending_seen (λ doors. map door doors.items) network.doors;
}
