use Rattle.share_ledger.proofs.Applied.{applied-grant}
use Rattle.share_ledger.proofs.tables.Tables.grant.Goals as goal

pub invariant_of-self : goal.invariant_of-self
invariant_of-self c =
    applied-grant _ c.args.self.now c.self.view_is c.self.invariant c.args.event c.requires.next c.push.new.self c.push.ensures
    c.other_events_leave_sessions.ensures c.args.account c.args.fixed c.args.path c.requires.grants c.grant.new.self c.grant.ensures.shown
