use Rattle.std.proofs.Common.{ap, ◌∙◌, arith}
use Rattle.sha2.specs.Sha256.{padding, rounds, schedule}
use Rattle.sha256_lanes.proofs.padding.eight_pad_steps.Goals as goal

pub returns : goal.returns
returns c = λ l lt h held.
    let after = rounds h (schedule (padding 64) 48) in
    let s1 = c.four_pad_steps-v.ensures l lt h held in
    c.four_pad_steps.ensures l lt h s1 ∙ ap after (omega arith)
