use Rattle.std.proofs.Common.{arith}
use Rattle.ledger_audit.proofs.Cut.{whole_record}
use Rattle.ledger_audit.proofs.pieces.next_record.Goals as goal

pub returns-clause-found : goal.returns-clause-found
returns-clause-found c =
    whole_record c.args.format c.args.bytes.now c.split_at.result.0.now c.split_at.result.1.now c.hash_len-2.result c.in_ok-len.len c.in_ok-len.ensures.value
    (omega (arith, c.if-len-gt-BODY_LIMIT.false)) c.hash_len-2.ensures (omega (arith, c.if-bytes-len.false, c.hash_len.ensures, c.hash_len-2.ensures))
    c.split_at.ensures.front c.split_at.ensures.back
