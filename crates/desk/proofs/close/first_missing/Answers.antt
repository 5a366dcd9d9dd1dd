use Rattle.std.proofs.Common.{below_more, subst}
use Rattle.std.specs.List.{Contains}
use Rattle.desk.specs.Closing.{workers_of}
use Rattle.desk.proofs.close.first_missing.Goals as goal

pub loop-place-preserved : goal.loop-place-preserved
loop-place-preserved g c =
    below_more _ _ c.loop-place.invariant
    (subst (λ l. Contains (workers_of l) c.loop-place.place) c.deref.ensures.value (c.has_worker.ensures.0 c.if-not-has_worker.false))
