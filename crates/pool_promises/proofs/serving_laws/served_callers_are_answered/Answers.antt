use Rattle.pool_promises.proofs.ServedHistories.{served_answered}
use Rattle.pool_promises.proofs.serving_laws.served_callers_are_answered.Goals as goal

pub returns : goal.returns
returns c = served_answered
