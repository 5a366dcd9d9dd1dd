use Rattle.share_ledger.proofs.Applied.{applied-tip}
use Rattle.share_ledger.proofs.tables.Tables.set_tip.Goals as goal

pub invariant_of-self : goal.invariant_of-self
invariant_of-self c =
    applied-tip _ c.args.self.now c.self.view_is c.self.invariant c.args.event c.requires.next c.push.new.self c.push.ensures
    c.other_events_leave_sessions.ensures c.other_events_leave_grants.ensures c.moves_are_told.ensures c.args.tip c.requires.tips c.set_tip-number.new.self c.len.result c.len.ensures.value c.set_tip-number.result c.set_tip-number.ensures.number (c.set_tip-number.ensures.takes c.self.invariant.rules.pool_script)
