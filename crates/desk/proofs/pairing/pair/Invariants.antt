use Rattle.std.proofs.Common.{◌≡◌, ◌+◌, ◌≤◌, vec_len}
use Rattle.std.specs.Vec.{vec_capacity}
use Rattle.desk.proofs.Pairs.{Pairing}
use Rattle.desk.proofs.pairing.pair.Given as goal

abbrev pub invariant-loop-task : goal.invariant-loop-task
invariant-loop-task g l = record {
  pairing : Pairing l.initial.tasks.items l.tasks.items l.initial.passes.items l.passes.items l.parts.items;
  as_many : vec_len l.passes ≡ vec_len l.tasks;
  long : vec_len l.parts + vec_len l.tasks ≤ vec_capacity l.parts;
  tasks_room : vec_capacity l.tasks ≡ vec_capacity l.initial.tasks;
  passes_room : vec_capacity l.passes ≡ vec_capacity l.initial.passes;
}

abbrev pub decreases-loop-task : goal.decreases-loop-task
decreases-loop-task g l = vec_len l.tasks
