use Rattle.std.proofs.Common.{refl}
use Rattle.peer_commands.specs.Callers.{HasWaited}
use Rattle.peer_commands.proofs.Waited.{waited-more}
use Rattle.peer_commands.proofs.caller.first_caller.Goals as goal

pub loop-turn-init : goal.loop-turn-init
unfolding HasWaited
loop-turn-init g c = refl

pub loop-turn-preserved : goal.loop-turn-preserved
loop-turn-preserved g c = waited-more c.loop-turn._turn _ _ _ c.loop-turn.invariant c.in-Idle.ensures
