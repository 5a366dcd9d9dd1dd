use Rattle.std.proofs.Common.{arith}
use Rattle.sha256_lanes.proofs.LaneFacts.{at_operator, at_is, at_self}
use Rattle.sha256_lanes.proofs.rounds.word_from.Goals as goal

pub returns : goal.returns
returns c = λ l lt.
    let w9 = at_self c.args.w9 l c.fits-w9.0 in
    let w0 = at_self c.args.w0 l c.fits-w0.0 in
    let s1 = at_is c.small_sigma1.result l _ (omega arith) (c.small_sigma1.ensures l lt) in
    let s0 = at_is c.small_sigma0.result l _ (omega arith) (c.small_sigma0.ensures l lt) in
    (at_operator _ lt (at_operator _ lt (at_operator _ lt s1 w9) s0) w0).value
