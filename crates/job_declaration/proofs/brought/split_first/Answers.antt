use Rattle.job_declaration.proofs.Parts.{first_part}
use Rattle.job_declaration.proofs.brought.split_first.Goals as goal

pub slice_bounds-others-count : goal.slice_bounds-others-count
slice_bounds-others-count c =
    let first = first_part c.args.parts.count c.args.parts.spelled.now c.in_ok-first.first.now c.args.parts.whole c.in_ok-first.ensures in
    first.fits

pub slice_bounds-others-start : goal.slice_bounds-others-start
slice_bounds-others-start c =
    let first = first_part c.args.parts.count c.args.parts.spelled.now c.in_ok-first.first.now c.args.parts.whole c.in_ok-first.ensures in
    first.fits

pub invariant_of-others : goal.invariant_of-others
invariant_of-others c =
    let first = first_part c.args.parts.count c.args.parts.spelled.now c.in_ok-first.first.now c.args.parts.whole c.in_ok-first.ensures in
    record { whole = first.whole }

pub returns : goal.returns
returns c =
    let first = first_part c.args.parts.count c.args.parts.spelled.now c.in_ok-first.first.now c.args.parts.whole c.in_ok-first.ensures in
    first.parts
