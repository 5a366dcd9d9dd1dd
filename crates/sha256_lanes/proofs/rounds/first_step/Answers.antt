use Rattle.std.proofs.Common.{refl, sym}
use Rattle.sha2.proofs.Schedule256.{rounds_first}
use Rattle.sha256_lanes.specs.Lanes.{lane}
use Rattle.sha256_lanes.proofs.LaneFacts.{lane_at}
use Rattle.sha256_lanes.proofs.rounds.first_step.Goals as goal

pub returns : goal.returns
returns c = λ l lt b h window held.
    let w = c.args.w.now in
    rounds_first b h (lane l w) (lane l c.args.v) c.args.t _ _ _ c.requires window held refl (sym (lane_at l w c.args.t)) (c.round.ensures l lt)
