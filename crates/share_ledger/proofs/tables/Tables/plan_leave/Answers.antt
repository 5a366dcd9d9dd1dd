use Rattle.pool_history.specs.declared.asking.Request.TheVariants as request
use Rattle.pool_history.specs.declared.events.Event.TheVariants as event
use Rattle.pool_history.specs.declared.replies.Reply.TheVariants as reply
use Rattle.share_ledger.specs.declared.planning.Change.TheVariants as change
use Rattle.share_ledger.proofs.SessionSteps.{leave-made}
use Rattle.share_ledger.proofs.Within.{moved}
use Rattle.share_ledger.proofs.tables.Tables.plan_leave.Goals as goal

pub returns : goal.returns
returns c =
    moved _ c.args.self.now c.args.self.now c.args.session request.Leave (event.Leave c.args.session) (change.Leave c.args.session) reply.Left c.self.view_is
    (leave-made _ c.self.invariant c.args.session)
