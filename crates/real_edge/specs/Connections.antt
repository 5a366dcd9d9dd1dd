-- What TCP's links and doors tell: nothing but counts, and how many links are out.
use Rattle.std.specs.Prelude.{None}
use Rattle.pool_network.specs.Seen.{DoorSeen, LinkSeen}
use Rattle.real_edge.specs.declared.tcp.TcpDoor.{TcpDoor}
use Rattle.real_edge.specs.declared.tcp.TcpLink.{TcpLink}
use Rattle.real_edge.specs.Edges.{untold_sink, untold_source}

abbrev pub link_seen : TcpLink → LinkSeen
link_seen link = record {
  source = untold_source link.read_faults;
  sink = untold_sink link.write_faults;
}

abbrev pub door_seen : {L C : Type 0} → TcpDoor L C → DoorSeen
door_seen door = record {
  faults = door.faults;
  asked = door.asked;
  coming = None;
  out = door.out;
  back = None;
}
