use Rattle.std.proofs.Common.{arith}
use Rattle.sha256_lanes.proofs.LaneFacts.{at_operator, at_is}
use Rattle.sha256_lanes.proofs.rounds.temp2.Goals as goal

pub returns : goal.returns
returns c = λ l lt.
    let s = at_is c.big_sigma0.result l _ (omega arith) (c.big_sigma0.ensures l lt) in
    let m = at_is c.maj.result l _ (omega arith) (c.maj.ensures l lt) in
    (at_operator _ lt s m).value
