use Rattle.std.proofs.Common.{length, take, arith, ap, ◌∙◌}
use Rattle.std.proofs.lemmas.List.{take_all}
use Rattle.sv2_types.proofs.Items.{IsBytes, parts_lie, parts_at-fits}
use Rattle.sv2_types.proofs.sequences.spelled_parts.Goals as goal

pub returns-clause-parts : goal.returns-clause-parts
returns-clause-parts c =
    let spelled = c.args.spelled.now in
    let fits : IsBytes spelled = λ i. omega (arith, c.type_inv.spelled i) in
    parts_lie c.args.count spelled fits (omega (arith, c.requires))
    ∙ ap (λ size. take size spelled) c.requires ∙ take_all (length spelled) spelled (omega arith)

pub returns-clause-fits : goal.returns-clause-fits
returns-clause-fits c =
    let spelled = c.args.spelled.now in
    let fits : IsBytes spelled = λ i. omega (arith, c.type_inv.spelled i) in
    parts_at-fits c.args.count spelled fits
