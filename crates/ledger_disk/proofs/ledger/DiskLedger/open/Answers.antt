use Rattle.std.proofs.Common.{subst}
use Rattle.std.specs.Option.{IfSome}
use Rattle.ledger_disk.specs.Calls.{WhereTold}
use Rattle.ledger_disk.specs.Steps.{BecomesLedger}
use Rattle.ledger_disk.proofs.Becoming.{became_on_disk, became_only, became_stored}
use Rattle.ledger_disk.proofs.Fresh.{fresh_leaves, fresh_log, fresh_settled}
use Rattle.ledger_disk.proofs.ledger.DiskLedger.open.Goals as goal

pub invariant_of-ledger : goal.invariant_of-ledger
invariant_of-ledger g c =
    let opens = subst (λ o. IfSome o (λ opened. WhereTold (g.D.Disk.seen c.args.disk).log (λ log. BecomesLedger opened.1 opened.0.items log (g.D.Disk.seen c.open_disk.new.disk).log)))
    c.in-Ok-Some.field-0-is (c.in-Ok-Some.ensures).opens in
    became_on_disk c.in-Ok-Some.gate c.in-Ok-Some.entries.items (g.D.Disk.seen c.args.disk).log (g.D.Disk.seen c.open_disk.new.disk).log c.open_disk.ensures.untold opens

pub returns-in-Ok-Some-clause-found : goal.returns-in-Ok-Some-clause-found
returns-in-Ok-Some-clause-found g c =
    let opens = subst (λ o. IfSome o (λ opened. WhereTold (g.D.Disk.seen c.args.disk).log (λ log. BecomesLedger opened.1 opened.0.items log (g.D.Disk.seen c.open_disk.new.disk).log)))
    c.in-Ok-Some.field-0-is (c.in-Ok-Some.ensures).opens in
    λ log is. (opens log is).opens

pub returns-in-Ok-Some-clause-kept : goal.returns-in-Ok-Some-clause-kept
returns-in-Ok-Some-clause-kept g c =
    let opens = subst (λ o. IfSome o (λ opened. WhereTold (g.D.Disk.seen c.args.disk).log (λ log. BecomesLedger opened.1 opened.0.items log (g.D.Disk.seen c.open_disk.new.disk).log)))
    c.in-Ok-Some.field-0-is (c.in-Ok-Some.ensures).opens in
    became_stored c.in-Ok-Some.gate c.in-Ok-Some.entries.items (g.D.Disk.seen c.args.disk).log (g.D.Disk.seen c.open_disk.new.disk).log c.open_disk.ensures.untold opens

pub returns-in-Ok-Some-clause-stored : goal.returns-in-Ok-Some-clause-stored
returns-in-Ok-Some-clause-stored g c =
    let opens = subst (λ o. IfSome o (λ opened. WhereTold (g.D.Disk.seen c.args.disk).log (λ log. BecomesLedger opened.1 opened.0.items log (g.D.Disk.seen c.open_disk.new.disk).log)))
    c.in-Ok-Some.field-0-is (c.in-Ok-Some.ensures).opens in
    became_only c.in-Ok-Some.gate c.in-Ok-Some.entries.items (g.D.Disk.seen c.args.disk).log (g.D.Disk.seen c.open_disk.new.disk).log c.open_disk.ensures.untold opens

pub returns-in-Ok-Some-clause-settled : goal.returns-in-Ok-Some-clause-settled
returns-in-Ok-Some-clause-settled g c =
    let opens = subst (λ o. IfSome o (λ opened. WhereTold (g.D.Disk.seen c.args.disk).log (λ log. BecomesLedger opened.1 opened.0.items log (g.D.Disk.seen c.open_disk.new.disk).log)))
    c.in-Ok-Some.field-0-is (c.in-Ok-Some.ensures).opens in
    λ content is.
    let found = (opens (fresh_log content) is).opens in
    let settled = fresh_leaves content c.in-Ok-Some.entries.items found in
    fresh_settled content c.in-Ok-Some.entries.items found (g.D.Disk.seen c.open_disk.new.disk)
    (c.open_disk.ensures.crash (fresh_log content) is settled) (c.open_disk.ensures.during (fresh_log content) is settled)
