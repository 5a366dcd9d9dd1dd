use Rattle.std.proofs.Common.{◌+◌, length}
use Rattle.event_store.proofs.Heard.{IsPolled}
use Rattle.event_store.proofs.history.History.news.Given as goal

abbrev pub invariant-loop-at : goal.invariant-loop-at
invariant-loop-at l = IsPolled l.self.events l.from l.session l.notes.items l.common l.own

abbrev pub decreases-loop-at : goal.decreases-loop-at
decreases-loop-at l = length l.common + length l.own
