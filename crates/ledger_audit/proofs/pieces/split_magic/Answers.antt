use Rattle.std.proofs.Common.{◌≡◌, false, true}
use Rattle.ledger_audit.proofs.Cut.{split_plain}
use Rattle.ledger_audit.proofs.pieces.split_magic.Goals as goal

pub returns-else-is_magic : goal.returns-else-is_magic
returns-else-is_magic c =
    split_plain c.args.bytes.now c.split_at.result.0.now c.split_at.result.1.now c.min.result c.min.ensures c.split_at.ensures.front c.split_at.ensures.back
    (λ same. (let wrong : false ≡ true = rw c.if-is_magic.false at (c.is_magic.ensures.1 same) in cc))
