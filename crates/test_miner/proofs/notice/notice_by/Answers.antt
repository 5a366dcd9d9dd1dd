use Rattle.std.proofs.Common.{sym, ◌∙◌, arith}
use Rattle.mining_msgs.specs.Seen.{mining_message}
use Rattle.test_miner.proofs.Meant.{message_meant, none_meant}
use Rattle.test_miner.proofs.notice.notice_by.Goals as goal

pub returns-in-Ok : goal.returns-in-Ok
returns-in-Ok c =
    let found = rw c.in-Ok.is at c.read-read.ensures.found in
    c.meaning.ensures ∙ sym (message_meant c.args.kind c.args.payload.now (mining_message c.in-Ok.message) found)

pub returns-in-Err : goal.returns-in-Err
returns-in-Err c =
    c.unread.ensures
    ∙ sym (none_meant mining_message c.read-read.result _ c.args.kind c.args.payload.now (λ i. omega (arith, c.type_inv.payload i)) c.in-Err.is c.read-read.ensures.only)
