use Rattle.std.proofs.Common.{◌≡◌, take}
use Rattle.pool_io.proofs.memory.host.source_of.Given as goal

-- the turns so far are the script's first ones
abbrev pub invariant-loop-turn : goal.invariant-loop-turn
invariant-loop-turn l = l.turns.items ≡ take l.turn-index l.turn-items
