use Rattle.std.proofs.Common.{arith}
use Rattle.stream_programs.proofs.Sharing.{share_message, is_share}
use Rattle.stream_programs.proofs.submission.read_share.Goals as goal

pub returns-in_default-2 : goal.returns-in_default-2
returns-in_default-2 c =
    let message = is_share c.args.payload.now (λ i. omega (arith, c.type_inv.payload i)) c.requires in
    let ok = c.read.ensures.only (share_message c.args.payload.now) message in
    rw c.in_default.is at ok
