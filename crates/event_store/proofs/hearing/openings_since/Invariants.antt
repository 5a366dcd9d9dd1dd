use Rattle.std.proofs.Common.{◌≡◌}
use Rattle.event_store.specs.Chains.{reach}
use Rattle.event_store.specs.Places.{if_since}
use Rattle.event_store.proofs.Walked.{HasListed}
use Rattle.event_store.proofs.hearing.openings_since.Given as goal

abbrev pub invariant-loop-next : goal.invariant-loop-next
invariant-loop-next l = record {
  listed : HasListed l.session l.from l.openings l.places.items l.next;
  since : if_since l.from l.openings l.next ≡ l.next;
}

abbrev pub decreases-loop-next : goal.decreases-loop-next
decreases-loop-next l = reach l.next
