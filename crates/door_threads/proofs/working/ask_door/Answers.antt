use Rattle.std.proofs.Common.{◌-◌, refl, arith}
use Rattle.door_threads.proofs.Attending.{on_none, on_visited, on_waited}
use Rattle.door_threads.proofs.working.ask_door.Goals as goal

pub returns-in-Caller-clause-next : goal.returns-in-Caller-clause-next
returns-in-Caller-clause-next g c = record {
  now = c.args.door_turns;
  last = g.D.Door.seen c.welcome.new.door;
  attends = on_visited g.S.LinkServer.serves c.args.door_turns c.args.turns (g.D.Door.seen c.args.door.now) (g.D.Door.seen c.accept.new.self) (g.D.Door.seen c.welcome.new.door) (g.D.L.Link.seen c.in-Caller.link) _ _ c.requires.turns
      c.in-Caller.ensures c.welcome.ensures.served;
  next = (refl, c.requires.waits, refl);
}

pub returns-in-Idle-clause-next : goal.returns-in-Idle-clause-next
returns-in-Idle-clause-next g c = record {
  now = c.args.turns - 1;
  last = g.D.Door.seen c.accept.new.self;
  attends = on_waited g.S.LinkServer.serves c.args.door_turns c.args.turns (g.D.Door.seen c.args.door.now) (g.D.Door.seen c.accept.new.self) _ c.requires.turns c.in-Idle.ensures;
  next = ((let one = c.if-turns-eq1.true in omega (arith, one)), refl);
}

pub returns-in-Idle-2-clause-next : goal.returns-in-Idle-2-clause-next
returns-in-Idle-2-clause-next g c = record {
  now = c.args.turns - 1;
  last = g.D.Door.seen c.accept.new.self;
  attends = on_waited g.S.LinkServer.serves c.args.door_turns c.args.turns (g.D.Door.seen c.args.door.now) (g.D.Door.seen c.accept.new.self) _ c.requires.turns c.in-Idle-2.ensures;
  next = (refl, (let more = c.if-turns-eq1.false in let some = c.requires.turns in omega (arith, more, some)), refl);
}

pub returns-in-Closed-clause-next : goal.returns-in-Closed-clause-next
returns-in-Closed-clause-next g c = record {
  now = c.args.turns;
  last = g.D.Door.seen c.args.door.now;
  attends = on_none g.S.LinkServer.serves c.args.door_turns c.args.turns (g.D.Door.seen c.args.door.now) _;
  next = (c.requires.turns, c.in-Closed.ensures);
}

pub returns-in-Failed-clause-next : goal.returns-in-Failed-clause-next
returns-in-Failed-clause-next g c = record {
  now = c.args.turns;
  last = g.D.Door.seen c.args.door.now;
  attends = on_none g.S.LinkServer.serves c.args.door_turns c.args.turns (g.D.Door.seen c.args.door.now) _;
  next = (c.requires.turns, c.in-Failed.ensures);
}

pub returns-in-Memory-clause-next : goal.returns-in-Memory-clause-next
returns-in-Memory-clause-next g c = record {
  now = c.args.turns;
  last = g.D.Door.seen c.args.door.now;
  attends = on_none g.S.LinkServer.serves c.args.door_turns c.args.turns (g.D.Door.seen c.args.door.now) _;
  next = (c.requires.turns, c.in-Memory.ensures);
}
