use Rattle.event_store.proofs.Pushed.{can-mark}
use Rattle.event_store.proofs.history.History.push.Goals as goal

pub add-detail-requires-clause-fits : goal.add-detail-requires-clause-fits
add-detail-requires-clause-fits c =
    rw c.self.invariant.marked (can-mark c.self.inside.events.items c.args.event (rw (← c.self.view_is) at c.requires.legal))
