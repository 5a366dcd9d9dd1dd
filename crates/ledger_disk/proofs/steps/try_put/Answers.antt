use Rattle.std.proofs.Common.{◌∙◌, Err, Result, ap, inl, inr, subst}
use Rattle.ledger_disk.specs.declared.steps.PutFailed.{PutFailed}
use Rattle.ledger_disk.specs.Steps.{LogsPut}
use Rattle.ledger_disk.proofs.steps.try_put.Goals as goal

pub returns-in-Err-Unwritten-clause-does : goal.returns-in-Err-Unwritten-clause-does
returns-in-Err-Unwritten-clause-does g c = λ log is.
    inl (subst (λ (r : Result (Unit {0}) PutFailed). LogsPut c.args.at c.args.bytes.now r log (g.D.Disk.seen c.put.new.disk).log)
    (c.in-Err-Unwritten.is ∙ ap (λ (e : PutFailed). Err e) c.in-Err-Unwritten.field-0-is) (c.put.ensures.does log is))

pub returns-in-Err-Unsure-clause-does : goal.returns-in-Err-Unsure-clause-does
returns-in-Err-Unsure-clause-does g c = λ log is.
    inr (subst (λ (r : Result (Unit {0}) PutFailed). LogsPut c.args.at c.args.bytes.now r log (g.D.Disk.seen c.put.new.disk).log)
    (c.in-Err-Unsure.is ∙ ap (λ (e : PutFailed). Err e) c.in-Err-Unsure.field-0-is) (c.put.ensures.does log is))
