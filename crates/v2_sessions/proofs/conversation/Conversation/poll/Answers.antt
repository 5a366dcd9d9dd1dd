use Rattle.std.proofs.Common.{None, Some}
use Rattle.std.proofs.lemmas.Result.{err_from_is_err_and}
use Rattle.v2_sessions.proofs.Moves.{poll_answered, poll_faulted}
use Rattle.v2_sessions.proofs.conversation.Conversation.poll.Goals as goal

pub returns-in_err-reply-clause-runs : goal.returns-in_err-reply-clause-runs
returns-in_err-reply-clause-runs g c = λ intake.
    let p = err_from_is_err_and c.from_residual.result c.from_residual.ensures.1 in
    rw (p.1, p.2) (poll_faulted intake c.args.self.now c.in_err-reply.field-0.0 c.act-outcome.ensures.call c.in_err-reply.was)

pub returns-in_err-put_frames-clause-runs : goal.returns-in_err-put_frames-clause-runs
returns-in_err-put_frames-clause-runs g c = λ intake.
    let p = err_from_is_err_and c.from_residual-in_err-put_frames.result c.from_residual-in_err-put_frames.ensures.1 in
    rw (p.1, p.2)
    (poll_answered intake c.args.self.now c.in_ok-reply.reply (Some c.in_err-put_frames.field-0.0) c.told_to-self.result c.act-outcome.ensures.call c.in_ok-reply.was c.in_err-put_frames.ensures c.told_to-self.ensures)

pub returns-clause-runs : goal.returns-clause-runs
returns-clause-runs g c = λ intake.
    poll_answered intake c.args.self.now c.in_ok-reply.reply None c.told_to-self.result c.act-outcome.ensures.call c.in_ok-reply.was c.in_ok-put_frames.ensures c.told_to-self.ensures
