use Rattle.std.proofs.Common.{Bool, subst, sym}
use Rattle.ledger_disk.specs.Crashes.{stored_entries}
use Rattle.ledger_disk.specs.Steps.{HoldsLedger, Shuts}
use Rattle.ledger_disk.proofs.Shutting.{inside_shut, shut_done, shut_failed}
use Rattle.ledger_disk.proofs.ledger.shut.Goals as goal

pub put-requires : goal.put-requires
put-requires g c = λ log is.
    inside_shut c.args.gate log (subst (λ (b : Bool). HoldsLedger c.args.gate b (stored_entries log) log) c.if-not-is_torn.false (c.requires log is))

pub returns-in-Ok-clause-shuts : goal.returns-in-Ok-clause-shuts
returns-in-Ok-clause-shuts g c = λ log is.
    let holds = subst (λ (b : Bool). HoldsLedger c.args.gate b (stored_entries log) log) c.if-not-is_torn.false (c.requires log is) in
    shut_done c.args.gate log holds _ c.put.result c.in-Ok.field-0 c.in-Ok.is (c.put.ensures.does log is)

pub returns-in-Err-Unwritten-clause-shuts : goal.returns-in-Err-Unwritten-clause-shuts
returns-in-Err-Unwritten-clause-shuts g c = λ log is.
    let holds = subst (λ (b : Bool). HoldsLedger c.args.gate b (stored_entries log) log) c.if-not-is_torn.false (c.requires log is) in
    subst (λ (b : Bool). Shuts c.args.gate log (g.D.Disk.seen c.put.new.disk).log b) (sym c.if-not-is_torn.false)
    (shut_failed c.args.gate log holds _ c.put.result c.in-Err-Unwritten.field-0 c.in-Err-Unwritten.is (c.put.ensures.does log is))

pub returns-in-Err-Unsure-clause-shuts : goal.returns-in-Err-Unsure-clause-shuts
returns-in-Err-Unsure-clause-shuts g c = λ log is.
    let holds = subst (λ (b : Bool). HoldsLedger c.args.gate b (stored_entries log) log) c.if-not-is_torn.false (c.requires log is) in
    subst (λ (b : Bool). Shuts c.args.gate log (g.D.Disk.seen c.put.new.disk).log b) (sym c.if-not-is_torn.false)
    (shut_failed c.args.gate log holds _ c.put.result c.in-Err-Unsure.field-0 c.in-Err-Unsure.is (c.put.ensures.does log is))
