use Rattle.std.proofs.Common.{◌≡◌, ◌+◌, ◌≤◌, vec_len}
use Rattle.std.specs.Vec.{vec_capacity}
use Rattle.door_threads.proofs.Lists.{Listing}
use Rattle.door_threads.proofs.listing.list.Given as goal

abbrev pub invariant-loop-door : goal.invariant-loop-door
invariant-loop-door g l = record {
  listing : Listing l.initial.doors.items l.doors.items l.parts.items;
  long : vec_len l.parts + vec_len l.doors + 1 ≤ vec_capacity l.parts;
  doors_room : vec_capacity l.doors ≡ vec_capacity l.initial.doors;
}

abbrev pub decreases-loop-door : goal.decreases-loop-door
decreases-loop-door g l = vec_len l.doors
