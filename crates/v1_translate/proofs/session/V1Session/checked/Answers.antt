use Rattle.v1_translate.proofs.Extranonces.{short}
use Rattle.v1_translate.proofs.session.V1Session.checked.Goals as goal

pub invariant_of-result : goal.invariant_of-result
invariant_of-result c =
    short c.args.asked.now.extranonce.now c.in-Some-2.extranonce.items (rw c.in-Some-2.is at c.in_ok-extranonce.ensures)
