use Rattle.ledger_resume.proofs.Leaves.{not_left}
use Rattle.ledger_resume.proofs.ready.go_on.Goals as goal

pub returns-in-Ok-clause-none : goal.returns-in-Ok-clause-none
returns-in-Ok-clause-none g c =
    let ours = c.in-Ok-true.ensures c.in-Ok.book.events c.in-Ok.ensures.history in
    not_left g.D.Disk.seen c.args.rules c.args.ledger c.args.records.now c.in-Ok.book c.end_earlier.result
    (record { history = c.in-Ok.ensures.history; starts = ours.0 c.in-Ok-true.field-0-test }) c.in-Ok.ensures.keeper c.end_earlier.ensures.stands
