use Rattle.std.proofs.Common.{◌≡◌, ◌++◌, length}
use Rattle.v1_lines.specs.Jobs.{swapped_words}
use Rattle.v1_lines.proofs.notices.swap_words.Given as goal

abbrev pub invariant-loop-rest : goal.invariant-loop-rest
invariant-loop-rest l = l.swapped.items ++ swapped_words l.rest ≡ swapped_words l.fn.bytes

abbrev pub decreases-loop-rest : goal.decreases-loop-rest
decreases-loop-rest l = length l.rest
