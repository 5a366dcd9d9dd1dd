use Rattle.std.proofs.Common.{refl, arith}
use Rattle.ledger_records.proofs.Starts.{start_is, start_is_refused}
use Rattle.ledger_records.proofs.starting.read_start.Goals as goal

pub returns-in_ok-new-in-Ok : goal.returns-in_ok-new-in-Ok
returns-in_ok-new-in-Ok c =
    let boxed = c.in_ok-new-in-Ok.ensures in
    rw boxed
    (start_is c.args.body.now c.split_at.result.0.now c.split_at.result.1.now _ c.in-Ok.rules (λ i. omega (arith, c.type_inv.body i)) c.requires
    c.split_at.ensures.front c.split_at.ensures.back (record { well_formed = rw boxed at c.fields_fit.ensures; texts = rw boxed at c.texts_are_utf8.ensures }) c.in-Ok.ensures)

pub returns-in-Err : goal.returns-in-Err
returns-in-Err c =
    start_is_refused c.args.body.now c.split_at.result.0.now c.split_at.result.1.now _ c.in-Err.error refl c.split_at.ensures.front c.split_at.ensures.back c.in-Err.ensures
