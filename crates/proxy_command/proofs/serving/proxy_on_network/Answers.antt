use Rattle.std.proofs.Common.{map}
use Rattle.door_threads.proofs.Given.{gives_both}
use Rattle.proxy_command.proofs.serving.proxy_on_network.Goals as goal

pub returns-in-Ran-clause-proxies : goal.returns-in-Ran-clause-proxies
returns-in-Ran-clause-proxies g c =
    let seen = g.N.Network.seen in
    let link = g.N.D.L.Link.seen in
    let door = g.N.D.Door.seen in
    record {
      link = link c.in-Ok-open_places.opened.link;
      link_back = link c.in-Ran.link;
      doors = map door c.in-Ok-open_places.opened.doors.items;
      doors_back = map door c.in-Ran.doors.items;
      gives = gives_both c.in-Ok-open_places.ensures.places (seen c.leave_places.new.network) (link c.in-Ran.link) (map door c.in-Ran.doors.items) c.leave_places.ensures;
      ran = rw c.in-Ok.ensures at c.in-Ran.ensures.0;
    }
