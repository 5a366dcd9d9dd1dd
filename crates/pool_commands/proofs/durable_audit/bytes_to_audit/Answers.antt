use Rattle.std.proofs.Common.{◌≡◌, IfOk, subst}
use Rattle.pool_commands.proofs.Kept.{audited_is}
use Rattle.pool_commands.proofs.durable_audit.bytes_to_audit.Goals as goal

pub returns-in-Some : goal.returns-in-Some
returns-in-Some c =
    subst (λ b. IfOk c.in_row.result (λ row. row.items ≡ b))
    (audited_is c.in-Some._first.now c.in-Some._later.now c.args.records.now c.in-Some.ensures.cases.0) c.in_row.ensures
