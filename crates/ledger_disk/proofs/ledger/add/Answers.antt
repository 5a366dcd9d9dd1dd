use Rattle.std.proofs.Common.{Bool, List, ℕ, ◌+◌, ◌∙◌, ap, Err, Ok, subst, sym, length}
use Rattle.pool_io.specs.declared.keeper.KeeperFailed.TheVariants.{Memory}
use Rattle.ledger_disk.specs.declared.steps.PutFailed.{PutFailed}
use Rattle.ledger_disk.specs.Steps.{Adds, LogsPut}
use Rattle.ledger_disk.proofs.Adding.{add_done, add_failed, add_unsure, add_unwritten, inside_add, opening_needs}
use Rattle.ledger_disk.proofs.ledger.add.Goals as goal

pub put-requires : goal.put-requires
put-requires g c = λ log is. inside_add c.args.bytes.now c.requires.fits c.args.gate.now log (c.requires.holds log is)

pub returns-in-Err-Unwritten-clause-adds : goal.returns-in-Err-Unwritten-clause-adds
returns-in-Err-Unwritten-clause-adds g c = λ log is.
    let told = (g.D.Disk.seen c.put.new.disk).log in
    let does = subst (λ (e : List ℕ). LogsPut (c.args.gate.now + 1) e c.put.result log told) c.requires.entry (c.put.ensures.does log is) in
    subst (λ (b : Bool). Adds c.args.bytes.now (Err Memory) c.args.gate.now log c.args.gate.now told b) (sym c.requires.shut)
    (add_failed c.args.bytes.now c.requires.fits c.args.gate.now log (c.requires.holds log is) told c.put.result c.in-Err-Unwritten.field-0 c.in-Err-Unwritten.is does Memory)

pub returns-in-Err-Unsure-clause-adds : goal.returns-in-Err-Unsure-clause-adds
returns-in-Err-Unsure-clause-adds g c = λ log is.
    let told = (g.D.Disk.seen c.put.new.disk).log in
    let does = subst (λ (e : List ℕ). LogsPut (c.args.gate.now + 1) e c.put.result log told) c.requires.entry (c.put.ensures.does log is) in
    subst (λ (b : Bool). Adds c.args.bytes.now (Err c.keeper_failed.result) c.args.gate.now log c.args.gate.now told b) (sym c.requires.shut)
    (add_failed c.args.bytes.now c.requires.fits c.args.gate.now log (c.requires.holds log is) told c.put.result c.in-Err-Unsure.field-0 c.in-Err-Unsure.is does c.keeper_failed.result)

pub put-requires-2 : goal.put-requires-2
put-requires-2 g c = opening_needs c.args.bytes.now c.requires.fits c.args.gate.now (g.D.Disk.seen c.args.disk.now).log (g.D.Disk.seen c.put.new.disk).log c.put.ensures.untold
    c.requires.holds
    (λ log is. subst (λ (e : List ℕ). LogsPut (c.args.gate.now + 1) e (Ok tt) log (g.D.Disk.seen c.put.new.disk).log) c.requires.entry ((c.in-Ok.ensures).does log is))

pub returns-in-Ok-put-clause-adds : goal.returns-in-Ok-put-clause-adds
returns-in-Ok-put-clause-adds g c = λ log is.
    let mid = (g.D.Disk.seen c.put.new.disk).log in
    let told = (g.D.Disk.seen c.put-2.new.disk).log in
    let does = subst (λ (e : List ℕ). LogsPut (c.args.gate.now + 1) e (Ok tt) log mid) c.requires.entry ((c.in-Ok.ensures).does log is) in
    subst (λ (b : Bool). Adds c.args.bytes.now (Ok tt) c.args.gate.now log (c.args.gate.now + (5 + length c.args.bytes.now)) told b) (sym c.requires.shut)
    (add_done c.args.bytes.now c.requires.fits c.args.gate.now log (c.requires.holds log is) mid does told c.put-2.result c.in-Ok-put.field-0 c.in-Ok-put.is c.put-2.ensures.does)

pub returns-in-Err-Unwritten-put-clause-adds : goal.returns-in-Err-Unwritten-put-clause-adds
returns-in-Err-Unwritten-put-clause-adds g c = λ log is.
    let mid = (g.D.Disk.seen c.put.new.disk).log in
    let told = (g.D.Disk.seen c.put-2.new.disk).log in
    let does = subst (λ (e : List ℕ). LogsPut (c.args.gate.now + 1) e (Ok tt) log mid) c.requires.entry ((c.in-Ok.ensures).does log is) in
    subst (λ (b : Bool). Adds c.args.bytes.now (Err Memory) c.args.gate.now log c.args.gate.now told b) (sym c.requires.shut)
    (add_unwritten c.args.bytes.now c.requires.fits c.args.gate.now log (c.requires.holds log is) mid does told c.put-2.result
    (c.in-Err-Unwritten-put.is ∙ ap (λ (e : PutFailed). Err e) c.in-Err-Unwritten-put.field-0-is) c.put-2.ensures.does Memory)

pub returns-in-Err-Unsure-put-clause-adds : goal.returns-in-Err-Unsure-put-clause-adds
returns-in-Err-Unsure-put-clause-adds g c = λ log is.
    let mid = (g.D.Disk.seen c.put.new.disk).log in
    let told = (g.D.Disk.seen c.put-2.new.disk).log in
    let does = subst (λ (e : List ℕ). LogsPut (c.args.gate.now + 1) e (Ok tt) log mid) c.requires.entry ((c.in-Ok.ensures).does log is) in
    add_unsure c.args.bytes.now c.requires.fits c.args.gate.now log (c.requires.holds log is) mid does told c.put-2.result c.in-Err-Unsure-put.error
    (c.in-Err-Unsure-put.is ∙ ap (λ (e : PutFailed). Err e) c.in-Err-Unsure-put.field-0-is) c.put-2.ensures.does c.keeper_failed-in-Err-Unsure-put.result
