use Rattle.std.proofs.Common.{◌+◌, ◌≤◌, vec_len}
use Rattle.std.specs.Vec.{vec_capacity}
use Rattle.desk.proofs.Pairs.{Unpairing}
use Rattle.desk.proofs.pairing.unpair.Given as goal

abbrev pub invariant-loop-part : goal.invariant-loop-part
invariant-loop-part g l = record {
  unpairs : Unpairing l.fn.parts.items l.parts.items l.tasks.items l.passes.items;
  tasks_room : vec_len l.tasks + vec_len l.parts ≤ vec_capacity l.tasks;
  passes_room : vec_len l.passes + vec_len l.parts ≤ vec_capacity l.passes;
}

abbrev pub decreases-loop-part : goal.decreases-loop-part
decreases-loop-part g l = vec_len l.parts
