use Rattle.std.proofs.Common.{None, Some}
use Rattle.std.proofs.lemmas.Result.{err_from_is_err_and}
use Rattle.v2_sessions.proofs.Moves.{next_reads}
use Rattle.v2_sessions.proofs.Turns.{refused_runs, said_runs}
use Rattle.v2_sessions.proofs.conversation.Conversation.take_step.Goals as goal

pub returns-in-Ask-clause-runs : goal.returns-in-Ask-clause-runs
returns-in-Ask-clause-runs g c = λ intake some.
    rw c.in-Ask.is (rw (next_reads c.answer.new.self.entered intake.idles some) at (c.answer.ensures.runs intake))

pub returns-in_err-put_refused-in-RefuseSetup-clause-runs : goal.returns-in_err-put_refused-in-RefuseSetup-clause-runs
returns-in_err-put_refused-in-RefuseSetup-clause-runs g c = λ intake some.
    let p = err_from_is_err_and c.from_residual-in_err-put_refused-in-RefuseSetup.result c.from_residual-in_err-put_refused-in-RefuseSetup.ensures.1 in
    rw (c.in-RefuseSetup.is, p.1, p.2)
    (refused_runs intake c.args.self.now c.in-RefuseSetup.code c.in-RefuseSetup.flags (Some c.in_err-put_refused-in-RefuseSetup.field-0.0) c.in_err-put_refused-in-RefuseSetup.ensures)

pub returns-in_ok-put_refused-in-RefuseSetup-clause-runs : goal.returns-in_ok-put_refused-in-RefuseSetup-clause-runs
returns-in_ok-put_refused-in-RefuseSetup-clause-runs g c = λ intake some.
    rw c.in-RefuseSetup.is
    (refused_runs intake c.args.self.now c.in-RefuseSetup.code c.in-RefuseSetup.flags None c.in_ok-put_refused-in-RefuseSetup.ensures)

pub returns-in_err-put_bytes-in-Say-clause-runs : goal.returns-in_err-put_bytes-in-Say-clause-runs
returns-in_err-put_bytes-in-Say-clause-runs g c = λ intake some.
    let p = err_from_is_err_and c.from_residual.result c.from_residual.ensures.1 in
    rw (c.in-Say.is, p.1, p.2)
    (said_runs intake c.args.self.now c.in-Say.bytes (Some c.in_err-put_bytes-in-Say.field-0.0) (rw c.bytes-in-Say.ensures at c.in_err-put_bytes-in-Say.ensures))

pub returns-in_ok-put_bytes-in-Say-clause-runs : goal.returns-in_ok-put_bytes-in-Say-clause-runs
returns-in_ok-put_bytes-in-Say-clause-runs g c = λ intake some.
    rw c.in-Say.is
    (said_runs intake c.args.self.now c.in-Say.bytes None (rw c.bytes-in-Say.ensures at c.in_ok-put_bytes-in-Say.ensures))
