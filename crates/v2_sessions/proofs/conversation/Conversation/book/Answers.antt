use Rattle.std.proofs.Common.{None, Some}
use Rattle.std.proofs.lemmas.Result.{err_from_is_err_and}
use Rattle.v2_sessions.proofs.Moves.{book_answered, book_faulted}
use Rattle.v2_sessions.proofs.conversation.Conversation.book.Goals as goal

pub returns-in_err-reply-clause-runs : goal.returns-in_err-reply-clause-runs
returns-in_err-reply-clause-runs g c = λ intake brief books.
    let p = err_from_is_err_and c.from_residual.result c.from_residual.ensures.1 in
    rw (p.1, p.2) (book_faulted intake c.args.self.now brief c.args.booking c.in_err-reply.field-0.0 books c.act-outcome.ensures.call c.in_err-reply.was)

pub returns-in_err-put_frames-clause-runs : goal.returns-in_err-put_frames-clause-runs
returns-in_err-put_frames-clause-runs g c = λ intake brief books.
    let p = err_from_is_err_and c.from_residual-in_err-put_frames.result c.from_residual-in_err-put_frames.ensures.1 in
    rw (p.1, p.2)
    (book_answered intake c.args.self.now brief c.args.booking c.in_ok-reply.reply (Some c.in_err-put_frames.field-0.0) books c.act-outcome.ensures.call c.in_ok-reply.was c.in_err-put_frames.ensures)

pub returns-clause-runs : goal.returns-clause-runs
returns-clause-runs g c = λ intake brief books.
    book_answered intake c.args.self.now brief c.args.booking c.in_ok-reply.reply None books c.act-outcome.ensures.call c.in_ok-reply.was c.in_ok-put_frames.ensures
