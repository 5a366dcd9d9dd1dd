use Rattle.std.proofs.Common.{arith, refl}
use Rattle.proxy_core.proofs.Messages.{defect_told, message_told}
use Rattle.proxy_core.proofs.frames.message_of.Goals as goal

pub returns-in-Ok : goal.returns-in-Ok
returns-in-Ok c = message_told c.in-Ok.message c.args.kind c.args.payload.now c.in-Ok.ensures.found

pub returns-in-Err : goal.returns-in-Err
returns-in-Err c =
    defect_told c.args.kind c.args.payload.now c.in-Err.field-0 (λ i. omega (arith, c.type_inv.payload i))
    ((c.in-Err.ensures.refused c.in-Err.field-0).0 refl)
