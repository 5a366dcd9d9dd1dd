use Rattle.std.proofs.Common.{arith, Ok, Err}
use Rattle.ledger_records.proofs.Decided.{decided}
use Rattle.ledger_records.proofs.reading.event_of.Goals as goal

pub returns-in-Ok : goal.returns-in-Ok
returns-in-Ok c =
    decided c.args.kind c.args.body.now (Ok c.in-Ok.event) (λ i. omega (arith, c.type_inv.body i)) c.requires.short c.requires.later
    (record { well_formed = c.fields_fit.ensures; texts = c.texts_are_utf8.ensures }) c.in-Ok.ensures

pub returns-in-Err : goal.returns-in-Err
returns-in-Err c =
    decided c.args.kind c.args.body.now (Err c.in-Err.error) (λ i. omega (arith, c.type_inv.body i)) c.requires.short c.requires.later
    tt c.in-Err.ensures
