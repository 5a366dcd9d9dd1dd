use Rattle.share_ledger.proofs.Applied.{applied-leave}
use Rattle.share_ledger.proofs.tables.Tables.leave.Goals as goal

pub invariant_of-self : goal.invariant_of-self
invariant_of-self c =
    applied-leave _ c.args.self.now c.self.view_is c.self.invariant c.args.event c.requires.next c.push.new.self c.push.ensures
    c.other_events_leave_grants.ensures c.args.session c.requires.leaves c.leave.new.self c.leave.ensures c.leave-2.new.self c.leave-2.ensures
