use Rattle.sha256_lanes.proofs.LaneFacts.{at_operator, at_self}
use Rattle.sha256_lanes.proofs.functions.add.Goals as goal

pub returns : goal.returns
returns c = λ l lt.
    (at_operator _ lt (at_self c.args.x l c.fits-x.0) (at_self c.args.y l c.fits-y.0)).value
