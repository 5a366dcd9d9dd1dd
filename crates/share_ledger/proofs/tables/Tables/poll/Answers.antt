use Rattle.pool_history.specs.declared.asking.Request.TheVariants as request
use Rattle.pool_history.specs.declared.replies.Reply.TheVariants as reply
use Rattle.share_ledger.specs.contracts.tables.Tables.{the_view}
use Rattle.share_ledger.proofs.SessionSteps.{poll-told}
use Rattle.share_ledger.proofs.Within.{still}
use Rattle.share_ledger.proofs.tables.Tables.poll.Goals as goal

pub returns : goal.returns
returns c =
    still (the_view c.self.inside) c.args.self.now c.args.session (request.Poll c.args.from) (reply.News c.len-len.result c.in_ok-notes.notes)
    c.self.view_is
    (poll-told (the_view c.self.inside) c.self.invariant c.args.session c.args.from c.len-len.result c.min.result c.in_ok-notes.notes
    c.len-len.ensures.value c.min.ensures c.in_ok-notes.ensures)
