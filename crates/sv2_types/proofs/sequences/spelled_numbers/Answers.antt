use Rattle.std.proofs.Common.{◌/◌, length, arith}
use Rattle.sv2_types.proofs.Items.{IsBytes, flat_map-numbers_at, numbers_at-fits}
use Rattle.sv2_types.proofs.sequences.spelled_numbers.Goals as goal

pub returns-clause-numbers : goal.returns-clause-numbers
returns-clause-numbers c =
    let spelled = c.args.spelled.now in
    let fits : IsBytes spelled = λ i. omega (arith, c.type_inv.spelled i) in
    flat_map-numbers_at (length spelled / 2) spelled fits (omega (arith, c.requires))

pub returns-clause-fits : goal.returns-clause-fits
returns-clause-fits c =
    let spelled = c.args.spelled.now in
    let fits : IsBytes spelled = λ i. omega (arith, c.type_inv.spelled i) in
    numbers_at-fits (length spelled / 2) spelled fits
