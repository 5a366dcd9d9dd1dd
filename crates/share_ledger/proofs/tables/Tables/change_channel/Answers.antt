use Rattle.share_ledger.proofs.Applied.{applied-channel}
use Rattle.share_ledger.proofs.tables.Tables.change_channel.Goals as goal

pub invariant_of-self : goal.invariant_of-self
invariant_of-self c =
    applied-channel _ c.args.self.now c.self.view_is c.self.invariant c.args.event c.requires.next c.push.new.self c.push.ensures
    c.other_events_leave_sessions.ensures c.other_events_leave_grants.ensures c.args.plan c.requires.moves c.apply.new.self c.apply.ensures.told
