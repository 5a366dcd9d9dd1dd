use Rattle.std.proofs.Common.{ap, ◌∙◌, arith}
use Rattle.sha2.specs.Sha256.{padding, rounds, schedule}
use Rattle.sha256_lanes.proofs.padding.four_pad_steps.Goals as goal

pub returns : goal.returns
returns c = λ l lt h held.
    let after = rounds h (schedule (padding 64) 48) in
    let s1 = c.pad_step-v.ensures l lt h held in
    let s2 = c.pad_step-v-2.ensures l lt h s1 in
    let s3 = c.pad_step-v-3.ensures l lt h (s2 ∙ ap after (omega arith)) in
    c.pad_step.ensures l lt h (s3 ∙ ap after (omega arith)) ∙ ap after (omega arith)
