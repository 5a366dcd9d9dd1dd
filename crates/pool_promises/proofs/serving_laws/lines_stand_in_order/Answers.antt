use Rattle.pool_promises.proofs.Ordering.{lines_in_order}
use Rattle.pool_promises.proofs.serving_laws.lines_stand_in_order.Goals as goal

pub returns : goal.returns
returns c = lines_in_order
