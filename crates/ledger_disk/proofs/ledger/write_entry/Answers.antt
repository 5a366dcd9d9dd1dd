use Rattle.std.proofs.Common.{Bool, subst}
use Rattle.ledger_disk.specs.Steps.{Shuts}
use Rattle.ledger_disk.proofs.Telling.{shut_first, shut_only, told_shut}
use Rattle.ledger_disk.proofs.ledger.write_entry.Goals as goal

pub returns-in_err-shut-clause-adds : goal.returns-in_err-shut-clause-adds
returns-in_err-shut-clause-adds g c = λ log is.
    shut_only c.args.bytes.now c.from_residual.result c.from_residual.ensures.0 c.args.gate.now log (g.D.Disk.seen c.shut.new.disk).log c.shut.new.is_torn (c.shut.ensures.shuts log is)

pub add-requires-clause-holds : goal.add-requires-clause-holds
add-requires-clause-holds g c =
    told_shut c.args.gate.now (g.D.Disk.seen c.args.disk.now).log (g.D.Disk.seen c.shut.new.disk).log c.shut.new.is_torn c.shut.ensures.untold c.shut.ensures.shuts (c.in_ok-shut.ensures).shut

pub returns-clause-adds : goal.returns-clause-adds
returns-clause-adds g c = λ log is.
    let shut = subst (λ (b : Bool). Shuts c.args.gate.now log (g.D.Disk.seen c.shut.new.disk).log b) (c.in_ok-shut.ensures).shut (c.shut.ensures.shuts log is) in
    shut_first c.args.bytes.now c.add.result c.args.gate.now log (g.D.Disk.seen c.shut.new.disk).log c.add.new.gate (g.D.Disk.seen c.add.new.disk).log c.add.new.is_torn shut
    (c.add.ensures.adds shut.log shut.tells)
