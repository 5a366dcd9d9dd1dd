use Rattle.std.proofs.Common.{◌≡◌, length}
use Rattle.coinbase.specs.Cursors.{place_of}
use Rattle.coinbase.specs.Outputs.{outputs_within, outputs_of}
use Rattle.coinbase.proofs.WholeOutputs.{after_front}
use Rattle.coinbase.proofs.outputs.outputs_of.Given as goal

abbrev pub invariant-loop-cursor : goal.invariant-loop-cursor
invariant-loop-cursor l = after_front l.outputs.items (outputs_within (length l.cursor.left.now) (place_of l.cursor)) ≡ outputs_of l.bytes

abbrev pub decreases-loop-cursor : goal.decreases-loop-cursor
decreases-loop-cursor l = length l.cursor.left.now
