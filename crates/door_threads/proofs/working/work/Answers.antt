use Rattle.door_threads.proofs.Attending.{on_next, on_none, worked}
use Rattle.door_threads.proofs.working.work.Goals as goal

pub loop-init : goal.loop-init
loop-init g c = record {
  ready = c.requires.ready;
  turns = c.requires.waits;
  attends = on_none g.S.LinkServer.serves c.args.door_turns c.args.door_turns (g.D.Door.seen c.args.door.now) _;
}

pub loop-preserved : goal.loop-preserved
loop-preserved g c = record {
  ready = c.in-Ok.ensures.ready;
  turns = c.in-Ok.ensures.next.next.1;
  attends = on_next c.loop.invariant.attends c.in-Ok.ensures.next;
}

pub returns-in-Err-clause-worked : goal.returns-in-Err-clause-worked
returns-in-Err-clause-worked g c = worked c.loop.invariant.attends c.in-Err.ensures.next
