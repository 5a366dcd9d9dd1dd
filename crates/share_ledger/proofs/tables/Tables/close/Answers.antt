use Rattle.share_ledger.proofs.Applied.{applied-close}
use Rattle.share_ledger.proofs.tables.Tables.close.Goals as goal

pub invariant_of-self : goal.invariant_of-self
invariant_of-self c =
    applied-close _ c.args.self.now c.self.view_is c.self.invariant c.args.event c.requires.next c.push.new.self c.push.ensures
    c.other_events_leave_sessions.ensures c.other_events_leave_grants.ensures c.args.session c.args.channel c.requires.closes c.close-done.new.self c.close-done.result c.close-done.ensures.not_open.0 c.close-done.ensures.told
