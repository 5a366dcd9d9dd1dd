use Rattle.std.proofs.Common.{refl, arith}
use Rattle.template_msgs.specs.Seen.{template_message}
use Rattle.test_miner.proofs.Meant.{entry_meant, no_entry_meant}
use Rattle.test_miner.proofs.script.Script.take_payload.Goals as goal

pub returns-in-Ok-clause-brings : goal.returns-in-Ok-clause-brings
returns-in-Ok-clause-brings c =
    let meant = entry_meant c.args.kind c.args.payload.now (template_message c.in-Ok.message) (rw c.in-Ok.is at c.read-read.ensures.found) in
    rw meant c.take_message.ensures.brings

pub returns-in-Ok-clause-script : goal.returns-in-Ok-clause-script
returns-in-Ok-clause-script c =
    let meant = entry_meant c.args.kind c.args.payload.now (template_message c.in-Ok.message) (rw c.in-Ok.is at c.read-read.ensures.found) in
    rw meant c.take_message.ensures.script

pub returns-in-Err-clause-brings : goal.returns-in-Err-clause-brings
returns-in-Err-clause-brings c =
    let none = no_entry_meant template_message c.read-read.result _ c.args.kind c.args.payload.now (λ i. omega (arith, c.type_inv.payload i)) c.in-Err.is c.read-read.ensures.only in
    rw none refl

pub returns-in-Err-clause-script : goal.returns-in-Err-clause-script
returns-in-Err-clause-script c =
    let none = no_entry_meant template_message c.read-read.result _ c.args.kind c.args.payload.now (λ i. omega (arith, c.type_inv.payload i)) c.in-Err.is c.read-read.ensures.only in
    rw none refl
