use Rattle.std.proofs.Common.{arith}
use Rattle.sha256_lanes.proofs.LaneFacts.{at_operator, at_is}
use Rattle.sha256_lanes.proofs.functions.big_sigma0.Goals as goal

pub returns : goal.returns
returns c = λ l lt.
    let p = at_is c.rotate_right.result l _ (omega arith) (c.rotate_right.ensures l lt) in
    let q = at_is c.rotate_right-2.result l _ (omega arith) (c.rotate_right-2.ensures l lt) in
    let r = at_is c.rotate_right-3.result l _ (omega arith) (c.rotate_right-3.ensures l lt) in
    (at_operator _ lt (at_operator _ lt p q) r).value
