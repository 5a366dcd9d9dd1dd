use Rattle.sha256_lanes.proofs.LaneFacts.{at_operator, at_not, at_self}
use Rattle.sha256_lanes.proofs.functions.ch.Goals as goal

pub returns : goal.returns
returns c = λ l lt.
    let x = at_self c.args.x l c.fits-x.0 in
    let y = at_self c.args.y l c.fits-y.0 in
    let z = at_self c.args.z l c.fits-z.0 in
    (at_operator _ lt (at_operator _ lt x y) (at_operator _ lt (at_not _ lt x) z)).value
