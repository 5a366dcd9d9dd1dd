use Rattle.std.proofs.Common.{◌≡◌, length}
use Rattle.link_turns.specs.Waits.{IsBelowLimits, turns_left}
use Rattle.v2_sessions.proofs.Openings.{Waits}
use Rattle.v2_sessions.proofs.beginning.first_piece.Given as goal

abbrev pub invariant-loop-count : goal.invariant-loop-count
invariant-loop-count g l = record {
  room : length l.buffer ≡ 4096;
  below : IsBelowLimits l.waiting;
  waits : Waits l.fn.idle_turns l.waiting (g.L.Link.seen l.initial.link) (g.L.Link.seen l.link);
}

abbrev pub decreases-loop-count : goal.decreases-loop-count
decreases-loop-count g l = turns_left l.waiting
