use Rattle.std.proofs.Common.{◌≡◌, length}
use Rattle.link_turns.specs.Waits.{IsBelowLimits, turns_left}
use Rattle.link_hearing.specs.Hearing.{hearing_at}
use Rattle.link_hearing.proofs.Heard.{HeardSome}
use Rattle.link_hearing.proofs.hearing.hear_turns.Given as goal

abbrev pub invariant-loop-end : goal.invariant-loop-end
invariant-loop-end g l = record {
  ready : g.H.TurnHearer.sound l.hearer × g.H.TurnHearer.ready l.hearer;
  below : IsBelowLimits l.waiting;
  room : length l.buffer ≡ 4096;
  so_far :
      HeardSome g.H.TurnHearer.hears (hearing_at l.initial.waiting l.initial.hearer (g.L.Link.seen l.initial.link))
      (hearing_at l.waiting l.hearer (g.L.Link.seen l.link));
}

abbrev pub decreases-loop-end : goal.decreases-loop-end
decreases-loop-end g l = turns_left l.waiting
