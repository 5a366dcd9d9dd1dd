use Rattle.ledger_disk.specs.Moments.{last_content}
use Rattle.ledger_disk.specs.Entries.{entries_on}
use Rattle.ledger_disk.proofs.Closing.{closed_put, closed_uncut, closed_unsynced, closing_needs, short_log, short_synced}
use Rattle.ledger_disk.proofs.opening.close_behind.Goals as goal

pub returns-in_err-cut-clause-closes : goal.returns-in_err-cut-clause-closes
returns-in_err-cut-clause-closes g c = λ log is.
    closed_uncut (entries_on (last_content log)) c.args.gate log (c.requires.holds log is) c.from_residual.result c.from_residual.ensures.0 c.in_err-cut.field-0.0
    (g.D.Disk.seen c.cut.new.self).log ((c.in_err-cut.ensures).does log is)

pub returns-in_err-sync-clause-closes : goal.returns-in_err-sync-clause-closes
returns-in_err-sync-clause-closes g c = λ log is.
    let entries = entries_on (last_content log) in
    let holds = c.requires.holds log is in
    closed_unsynced entries c.args.gate log holds c.from_residual-in_err-sync.result c.from_residual-in_err-sync.ensures.0 (g.D.Disk.seen c.sync.new.self).log
    ((c.in_err-sync.ensures).does (short_log entries c.args.gate log holds) ((c.in_ok-cut.ensures).does log is))

pub try_put-requires : goal.try_put-requires
try_put-requires g c =
    closing_needs c.args.gate (g.D.Disk.seen c.args.disk.now).log (g.D.Disk.seen c.cut.new.self).log (g.D.Disk.seen c.sync.new.self).log c.cut.ensures.untold c.sync.ensures.untold
    c.requires.holds (c.in_ok-cut.ensures).does (c.in_ok-sync.ensures).does

pub returns-clause-closes : goal.returns-clause-closes
returns-clause-closes g c = λ log is.
    let entries = entries_on (last_content log) in
    let holds = c.requires.holds log is in
    closed_put entries c.args.gate log holds c.try_put.result (g.D.Disk.seen c.try_put.new.disk).log
    (c.try_put.ensures.does (short_synced entries c.args.gate log holds)
    ((c.in_ok-sync.ensures).does (short_log entries c.args.gate log holds) ((c.in_ok-cut.ensures).does log is)))
