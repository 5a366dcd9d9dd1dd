use Rattle.std.proofs.Common.{sym, arith}
use Rattle.sv2_types.proofs.Items.{length-parts_at, parts_at-fits}
use Rattle.sv2_messages.proofs.field.part_count.Goals as goal

pub returns-clause-count : goal.returns-clause-count
returns-clause-count c = sym (length-parts_at c.args.count c.args.spelled.now)

pub returns-clause-fit : goal.returns-clause-fit
returns-clause-fit c = parts_at-fits c.args.count c.args.spelled.now (λ i. omega (arith, c.type_inv.spelled i))
