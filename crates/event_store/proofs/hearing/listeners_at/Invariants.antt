use Rattle.event_store.specs.Chains.{reach}
use Rattle.event_store.proofs.Walked.{HasHeard}
use Rattle.event_store.proofs.hearing.listeners_at.Given as goal

abbrev pub invariant-loop-next : goal.invariant-loop-next
invariant-loop-next l = HasHeard l.session l.place l.openings l.listeners.items l.next

abbrev pub decreases-loop-next : goal.decreases-loop-next
decreases-loop-next l = reach l.next
