use Rattle.pool_promises.proofs.Ordering.{frames_in_order}
use Rattle.pool_promises.proofs.serving_laws.frames_stand_in_order.Goals as goal

pub returns : goal.returns
returns c = frames_in_order
