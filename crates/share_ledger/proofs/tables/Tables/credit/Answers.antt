use Rattle.share_ledger.proofs.Applied.{applied-credit}
use Rattle.share_ledger.proofs.tables.Tables.credit.Goals as goal

pub invariant_of-self : goal.invariant_of-self
invariant_of-self c =
    applied-credit _ c.args.self.now c.self.view_is c.self.invariant c.args.event c.requires.next c.push.new.self c.push.ensures
    c.other_events_leave_sessions.ensures c.other_events_leave_grants.ensures c.args.crediting.plan c.args.crediting.header c.args.crediting.is_block c.requires.credits c.apply.new.self c.apply.result c.apply.ensures.applied c.apply.ensures.summed c.apply.ensures.window c.insert.new.self c.insert.ensures
