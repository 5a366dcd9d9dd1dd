use Rattle.std.proofs.Common.{arith}
use Rattle.std.proofs.lemmas.Simd.{shifts_fit_splat}
use Rattle.sha256_lanes.proofs.LaneFacts.{at_operator, at_is, at_self, at_splat}
use Rattle.sha256_lanes.proofs.functions.small_sigma0.Goals as goal

pub overflow_shr-result : goal.overflow_shr-result
overflow_shr-result c = shifts_fit_splat 32 c.args.x 4 3 (omega arith)

pub returns : goal.returns
returns c = λ l lt.
    let x = at_self c.args.x l c.fits-x.0 in
    let p = at_is c.rotate_right.result l _ (omega arith) (c.rotate_right.ensures l lt) in
    let q = at_is c.rotate_right-2.result l _ (omega arith) (c.rotate_right-2.ensures l lt) in
    (at_operator _ lt (at_operator _ lt p q) (at_operator _ lt x (at_splat 3 l lt))).value
