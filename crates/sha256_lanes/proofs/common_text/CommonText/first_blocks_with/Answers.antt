use Rattle.std.proofs.Common.{◌≡◌, ℕ, [], length, get_or}
use Rattle.sha256_lanes.proofs.LaneFacts.{by_lane}
use Rattle.sha256_lanes.proofs.common_text.CommonText.first_blocks_with.Goals as goal

pub returns-clause-long : goal.returns-clause-long
returns-clause-long c =
    let here = λ (l : ℕ). length (get_or c.args.middles.now l []) ≡ 12 in
    by_lane here c.first_two_with.ensures.long c.first_two_with-2.ensures.long c.first_two_with-3.ensures.long
    c.first_two_with-4.ensures.long
