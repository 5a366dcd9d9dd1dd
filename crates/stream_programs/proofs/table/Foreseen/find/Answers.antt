use Rattle.std.proofs.Common.{◌≡◌, true, false, below_more}
use Rattle.stream_programs.proofs.table.Foreseen.find.Goals as goal

pub lanes-preserved : goal.lanes-preserved
lanes-preserved c = below_more _ _ c.lanes.invariant (λ same.
    let contrary : false ≡ true = c.if-is_same.ensures.1 same in cc)
