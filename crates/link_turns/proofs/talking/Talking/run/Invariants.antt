use Rattle.std.proofs.Common.{◌≡◌, length}
use Rattle.pool_io.specs.Steps.{Bounds}
use Rattle.pool_network.specs.Seen.{LinkSeen}
use Rattle.link_turns.specs.Talks.{IsTalking, TakenFor}
use Rattle.link_turns.specs.Waits.{IsBelowLimits, turns_left}
use Rattle.link_turns.proofs.talking.Talking.run.Given as goal

abbrev pub invariant-loop-end : goal.invariant-loop-end
invariant-loop-end g l = record {
  ready : g.P.Partner.is_ready l.partner;
  below : IsBelowLimits l.self.waiting;
  room : length l.buffer ≡ 4096;
  talking : (task : g.row.P-Task.Denot) (bounds : Bounds) (first : LinkSeen)
      → IsTalking (TakenFor g.P.Partner.asked task g.P.Partner.has_taken) bounds l.initial.self.waiting first (g.L.Link.seen l.initial.link) l.initial.partner
      → IsTalking (TakenFor g.P.Partner.asked task g.P.Partner.has_taken) bounds l.self.waiting first (g.L.Link.seen l.link) l.partner;
  reads : (g.L.Link.seen l.link).source.faults ≡ (g.L.Link.seen l.initial.link).source.faults;
  writes : (g.L.Link.seen l.link).sink.faults ≡ (g.L.Link.seen l.initial.link).sink.faults;
}

abbrev pub decreases-loop-end : goal.decreases-loop-end
decreases-loop-end g l = turns_left l.self.waiting
