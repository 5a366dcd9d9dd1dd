use Rattle.std.proofs.Common.{◌+◌, arith}
use Rattle.std.proofs.lemmas.List.{take_rest}
use Rattle.sv2_types.proofs.Items.{IsBehind-more}
use Rattle.sv2_types.proofs.sequences.behind_parts.Goals as goal

pub loop-preserved : goal.loop-preserved
loop-preserved c =
    rw (take_rest c.loop.rest.now (3 + c.said_u24.result), c.said_u24.ensures.value)
    (IsBehind-more _ _ _ _ (omega arith) c.loop.invariant)
