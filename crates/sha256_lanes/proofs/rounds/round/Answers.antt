use Rattle.std.proofs.Common.{refl}
use Rattle.sha256_lanes.proofs.LaneFacts.{lane_at}
use Rattle.sha256_lanes.proofs.rounds.round.Goals as goal

pub returns : goal.returns
returns c = λ l lt.
    let v = c.args.v in
    rw (
      lane_at l v 0,
      lane_at l v 1,
      lane_at l v 2,
      lane_at l v 3,
      lane_at l v 4,
      lane_at l v 5,
      lane_at l v 6,
      lane_at l v 7,
      c.add.ensures l lt,
      c.add-2.ensures l lt,
      c.temp1-t1.ensures l lt,
      c.temp2-t2.ensures l lt,
    ) refl
