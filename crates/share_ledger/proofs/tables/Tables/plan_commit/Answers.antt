use Rattle.std.proofs.Common.{sym, ◌∙◌, ◌≡◌, ap, subst}
use Rattle.history_laws.specs.Answered.{credit_of}
use Rattle.pool_history.specs.Answering.{with_event}
use Rattle.pool_history.specs.Judging.{share_of}
use Rattle.pool_history.specs.Sessions.{rules_of}
use Rattle.pool_history.specs.declared.asking.Request.TheVariants as request
use Rattle.pool_history.specs.declared.replies.Reply.TheVariants as reply
use Rattle.share_ledger.specs.Planning.{past_in, step_within}
use Rattle.share_ledger.proofs.SessionSteps.{step_if}
use Rattle.share_ledger.proofs.ShareSteps.{commit-made, commit-refused}
use Rattle.share_ledger.proofs.tables.Tables.plan_commit.Goals as goal

pub returns-in-Ok-clause-step : goal.returns-in-Ok-clause-step
returns-in-Ok-clause-step c =
    step_if c.book.result c.book.new.self
    (step_within (rules_of (past_in c.args.self.now)) (past_in c.args.self.now) c.args.session (request.Commit c.args.checked))
    (with_event (credit_of c.args.session (share_of c.args.checked.sub)) (reply.Credited c.in-Ok.passed.work))
    (commit-made (past_in c.args.self.now) c.args.session c.args.checked c.in-Ok.passed.header c.in-Ok.passed.is_block c.in-Ok.passed.work
    c.in-Ok.passed.reward c.in-Ok.ensures.ok) c.book.ensures.booked

pub returns-clause-step : goal.returns-clause-step
returns-clause-step c =
    commit-refused (past_in c.args.self.now) c.args.session c.args.checked c.in-Err.code c.in-Err.ensures.err
