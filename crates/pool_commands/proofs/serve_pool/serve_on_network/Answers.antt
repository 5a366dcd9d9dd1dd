use Rattle.std.proofs.Common.{inr, map, refl}
use Rattle.door_threads.proofs.Given.{gives_both}
use Rattle.pool_commands.proofs.Failing.{doors_failed, keeper_failed}
use Rattle.pool_commands.proofs.serve_pool.serve_on_network.Goals as goal

pub returns-in-Ran-clause-served : goal.returns-in-Ran-clause-served
returns-in-Ran-clause-served g c =
    let seen = g.N.Network.seen in
    let link = g.N.D.L.Link.seen in
    let door = g.N.D.Door.seen in
    record {
      link = link c.in-Ok.opened.link;
      link_back = link c.in-Ran.link;
      doors = map door c.in-Ok.opened.doors.items;
      doors_back = map door c.in-Ran.doors.items;
      gives = gives_both c.in-Ok.ensures.places (seen c.leave_places.new.network) (link c.in-Ran.link) (map door c.in-Ran.doors.items) c.leave_places.ensures;
      ran = c.in-Ran.ensures;
      keeper_failed = keeper_failed _ _ _ _ _ _ _ c.in-Ran.ensures;
      doors_failed = doors_failed _ _ _ _ _ _ _ c.in-Ran.ensures;
    }

pub returns-in-Memory-clause-served : goal.returns-in-Memory-clause-served
returns-in-Memory-clause-served g c =
    let seen = g.N.Network.seen in
    let link = g.N.D.L.Link.seen in
    let door = g.N.D.Door.seen in (
      c.in-Memory.ensures.0,
      inr (record {
        link = link c.in-Ok.opened.link;
        doors = map door c.in-Ok.opened.doors.items;
        gives = gives_both c.in-Ok.ensures.places (seen c.leave_places-in-Memory.new.network) (link c.in-Ok.opened.link) (map door c.in-Ok.opened.doors.items)
            (rw (c.in-Memory.ensures.1, c.in-Memory.ensures.2) at c.leave_places-in-Memory.ensures);
        error_is = refl;
      }),
    )
