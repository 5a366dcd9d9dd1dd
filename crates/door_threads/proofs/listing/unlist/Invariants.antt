use Rattle.std.proofs.Common.{◌+◌, ◌≤◌, vec_len}
use Rattle.std.specs.Vec.{vec_capacity}
use Rattle.door_threads.proofs.Lists.{UnlistsSo}
use Rattle.door_threads.proofs.listing.unlist.Given as goal

abbrev pub invariant-loop-part : goal.invariant-loop-part
invariant-loop-part g l = record {
  unlists : UnlistsSo l.fn.parts.items l.parts.items l.doors.items l.faults_told l.door_faults l.door_memory;
  doors_room : vec_len l.doors + vec_len l.parts ≤ vec_capacity l.doors;
}

abbrev pub decreases-loop-part : goal.decreases-loop-part
decreases-loop-part g l = vec_len l.parts
