use Rattle.std.proofs.Common.{sym, ◌∙◌}
use Rattle.share_ledger.proofs.Applied.{applied-custom}
use Rattle.share_ledger.proofs.tables.Tables.add_custom.Goals as goal

pub invariant_of-self : goal.invariant_of-self
invariant_of-self c =
    applied-custom _ c.args.self.now c.self.view_is c.self.invariant c.args.event c.requires.next c.push.new.self c.push.ensures
    c.other_events_leave_sessions.ensures c.moves_are_told.ensures c.args.plan c.args.token c.requires.brings c.apply.new.self c.apply.ensures.applied c.spend.new.self (λ session custom past named. c.spend.ensures session custom past (named ∙ sym c.bytes.ensures))
