use Rattle.std.proofs.Common.{arith}
use Rattle.sha256_lanes.proofs.LaneFacts.{at_operator, at_is, at_self, at_splat}
use Rattle.sha256_lanes.proofs.rounds.temp1.Goals as goal

pub returns : goal.returns
returns c = λ l lt.
    let h = at_self c.args.h l c.fits-h.0 in
    let word = at_self c.args.word l c.fits-word.0 in
    let s = at_is c.big_sigma1.result l _ (omega arith) (c.big_sigma1.ensures l lt) in
    let m = at_is c.ch.result l _ (omega arith) (c.ch.ensures l lt) in
    (at_operator _ lt (at_operator _ lt (at_operator _ lt (at_operator _ lt h s) m) (at_splat c.args.k l lt)) word).value
