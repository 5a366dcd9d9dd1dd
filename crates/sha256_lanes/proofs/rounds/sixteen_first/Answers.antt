use Rattle.sha256_lanes.proofs.rounds.sixteen_first.Goals as goal

pub returns : goal.returns
returns c = λ l lt b h window held.
    let s1 = c.first_four_steps-v.ensures l lt b h window held in
    let s2 = c.first_four_steps-v-2.ensures l lt b h window s1 in
    let s3 = c.first_four_steps-v-3.ensures l lt b h window s2 in
    c.first_four_steps.ensures l lt b h window s3
