use Rattle.std.proofs.Common.{◌≡◌, length, rules}
use Rattle.peer_commands.proofs.Lent.{lends_door}
use Rattle.peer_commands.proofs.serving.feed_at.Goals as goal

pub returns-in-Err-served-clause-fed : goal.returns-in-Err-served-clause-fed
returns-in-Err-served-clause-fed g c = let one : length c.in-Ok.doors.items ≡ 1 = search rules in (
  g.N.D.Door.seen c.index_mut.result.now,
  g.N.D.Door.seen c.feed_first-served.new.door,
  lends_door g.N.D.Door.seen c.args.address.now c.in-Ok.doors.items c.index_mut.result.now c.feed_first-served.new.door (g.N.Network.seen c.args.network.now)
      (g.N.Network.seen c.open_doors.new.self) (g.N.Network.seen c.done_doors.new.self) c.in-Ok.ensures.given one c.index_mut.ensures.value
      c.in-Ok.ensures.lent c.in-Ok.ensures.stays c.in-Ok.ensures.called c.done_doors.ensures.back,
  c.in-Err-served.ensures,
)
