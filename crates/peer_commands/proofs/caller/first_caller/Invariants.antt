use Rattle.peer_commands.specs.Callers.{HasWaited}
use Rattle.peer_commands.proofs.caller.first_caller.Given as goal

abbrev pub invariant-loop-turn : goal.invariant-loop-turn
invariant-loop-turn g l = HasWaited l._turn (g.D.Door.seen l.initial.door) (g.D.Door.seen l.door)
