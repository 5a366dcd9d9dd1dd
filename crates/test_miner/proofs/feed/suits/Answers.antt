use Rattle.std.proofs.Common.{sym, ◌∙◌, arith}
use Rattle.mining_msgs.specs.Seen.{mining_message}
use Rattle.test_miner.proofs.Meant.{setup_meant, no_setup_meant}
use Rattle.test_miner.proofs.feed.suits.Goals as goal

pub returns-in-Ok : goal.returns-in-Ok
returns-in-Ok c =
    let found = rw c.in-Ok.is at c.read-read.ensures.found in
    c.asks_for_templates.ensures ∙ sym (setup_meant c.args.kind c.args.payload.now (mining_message c.in-Ok.message) found)

pub returns-in-Err : goal.returns-in-Err
returns-in-Err c =
    sym (no_setup_meant mining_message c.read-read.result _ c.args.kind c.args.payload.now (λ i. omega (arith, c.type_inv.payload i)) c.in-Err.is c.read-read.ensures.only)
