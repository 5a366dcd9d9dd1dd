use Rattle.ledger_disk.proofs.Making.{empty_log, made_gate, made_uncut, made_unmarked, marked_log}
use Rattle.ledger_disk.proofs.opening.make_ledger.Goals as goal

pub returns-in_err-cut-clause-makes : goal.returns-in_err-cut-clause-makes
returns-in_err-cut-clause-makes g c = λ log is.
    made_uncut log c.from_residual.result c.from_residual.ensures.0 c.in_err-cut.field-0.0 (g.D.Disk.seen c.cut.new.self).log ((c.in_err-cut.ensures).does log is)

pub returns-in_err-try_put-clause-makes : goal.returns-in_err-try_put-clause-makes
returns-in_err-try_put-clause-makes g c = λ log is.
    made_unmarked log c.from_residual-in_err-try_put.result c.from_residual-in_err-try_put.ensures.0 c.in_err-try_put.field-0.0 (g.D.Disk.seen c.try_put.new.disk).log
    ((c.in_err-try_put.ensures).does (empty_log log) ((c.in_ok-cut.ensures).does log is))

pub returns-clause-makes : goal.returns-clause-makes
returns-clause-makes g c = λ log is.
    made_gate log c.try_put-2.result (g.D.Disk.seen c.try_put-2.new.disk).log
    (c.try_put-2.ensures.does (marked_log log) ((c.in_ok-try_put.ensures).does (empty_log log) ((c.in_ok-cut.ensures).does log is)))
