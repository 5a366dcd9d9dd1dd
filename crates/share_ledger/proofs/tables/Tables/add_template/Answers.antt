use Rattle.share_ledger.proofs.Applied.{applied-template}
use Rattle.share_ledger.proofs.tables.Tables.add_template.Goals as goal

pub invariant_of-self : goal.invariant_of-self
invariant_of-self c =
    applied-template _ c.args.self.now c.self.view_is c.self.invariant c.args.event c.requires.next c.push.new.self c.push.ensures
    c.other_events_leave_sessions.ensures c.other_events_leave_grants.ensures c.moves_are_told.ensures c.args.plan c.requires.offers c.apply.new.self c.apply.ensures.applied
