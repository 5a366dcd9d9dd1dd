use Rattle.std.proofs.Common.{refl}
use Rattle.sha256_lanes.proofs.LaneFacts.{lane_at}
use Rattle.sha256_lanes.proofs.rounds.add_state.Goals as goal

pub returns : goal.returns
returns c = λ l lt.
    let h = c.args.h in
    let v = c.args.v in
    rw (
      lane_at l h 0,
      lane_at l h 1,
      lane_at l h 2,
      lane_at l h 3,
      lane_at l h 4,
      lane_at l h 5,
      lane_at l h 6,
      lane_at l h 7,
      lane_at l v 0,
      lane_at l v 1,
      lane_at l v 2,
      lane_at l v 3,
      lane_at l v 4,
      lane_at l v 5,
      lane_at l v 6,
      lane_at l v 7,
      c.add.ensures l lt,
      c.add-2.ensures l lt,
      c.add-3.ensures l lt,
      c.add-4.ensures l lt,
      c.add-5.ensures l lt,
      c.add-6.ensures l lt,
      c.add-7.ensures l lt,
      c.add-8.ensures l lt,
    ) refl
