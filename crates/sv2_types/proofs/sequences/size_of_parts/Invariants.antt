use Rattle.sv2_types.proofs.Items.{IsCounted}
use Rattle.sv2_types.proofs.sequences.size_of_parts.Given as goal

abbrev pub invariant-loop : goal.invariant-loop
invariant-loop l = IsCounted l.fn.bytes l.fn.count l.counter l.size
