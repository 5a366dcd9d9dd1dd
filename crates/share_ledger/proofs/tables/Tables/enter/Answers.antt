use Rattle.share_ledger.proofs.Applied.{applied-enter}
use Rattle.share_ledger.proofs.tables.Tables.enter.Goals as goal

pub invariant_of-self : goal.invariant_of-self
invariant_of-self c =
    applied-enter _ c.args.self.now c.self.view_is c.self.invariant c.args.event c.requires.next c.push.new.self c.push.ensures
    c.other_events_leave_grants.ensures c.args.worker c.args.role c.args.flags c.requires.enters c.enter.new.self c.enter.ensures.shown
