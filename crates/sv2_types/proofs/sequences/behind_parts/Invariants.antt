use Rattle.sv2_types.proofs.Items.{IsBehind}
use Rattle.sv2_types.proofs.sequences.behind_parts.Given as goal

abbrev pub invariant-loop : goal.invariant-loop
invariant-loop l = IsBehind l.fn.spelled l.fn.count l.counter l.rest
