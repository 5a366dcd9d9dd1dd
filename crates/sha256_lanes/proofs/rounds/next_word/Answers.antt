use Rattle.std.proofs.Common.{◌≡◌, ◌∙◌, ◌+◌, ◌%◌, arith, refl}
use Rattle.sha256_lanes.proofs.LaneFacts.{lane_at}
use Rattle.sha256_lanes.proofs.rounds.next_word.Goals as goal

pub returns-clause-value : goal.returns-clause-value
returns-clause-value c = λ l lt.
    let w = c.args.w.now in
    let at : c.args.place % 16 ≡ c.args.place = omega arith in
    c.word_from-word.ensures l lt ∙
    rw (at, lane_at l w ((c.args.place + 14) % 16), lane_at l w ((c.args.place + 9) % 16), lane_at l w ((c.args.place + 1) % 16), lane_at l w c.args.place) refl
