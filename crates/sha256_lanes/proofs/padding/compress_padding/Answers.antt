use Rattle.std.proofs.Common.{◌≡◌, ◌∙◌, ◌*◌, ap, refl, arith}
use Rattle.sha2.specs.Sha256.{add_state, compress, rounds}
use Rattle.sha256_lanes.specs.Lanes.{lane}
use Rattle.sha256_lanes.proofs.padding.compress_padding.Goals as goal

pub turns-init : goal.turns-init
unfolding rounds
turns-init c = λ l lt. refl

pub turns-preserved : goal.turns-preserved
turns-preserved c = λ l lt. c.eight_pad_steps-next.ensures l lt (lane l c.args.state) (c.turns.invariant l lt)

pub returns : goal.returns
unfolding compress
returns c = λ l lt.
    let done : 8 * c.turns.turn ≡ 64 = omega arith in
    c.add_state.ensures l lt ∙ ap (add_state (lane l c.args.state)) (rw done at (c.turns.invariant l lt))
