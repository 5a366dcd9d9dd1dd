use Rattle.std.proofs.Common.{◌<◌}
use Rattle.door_threads.specs.Asking.{AttendsOn}
use Rattle.door_threads.proofs.working.work.Given as goal

abbrev pub invariant-loop : goal.invariant-loop
invariant-loop g l = record {
  ready : g.S.LinkServer.ready l.server;
  turns : 0 < l.turns;
  attends :
      AttendsOn
      g.S.LinkServer.serves l.fn.door_turns l.fn.door_turns l.turns (g.D.Door.seen l.initial.door) (g.D.Door.seen l.door)
      l.initial.server l.server;
}
