use Rattle.pool_promises.proofs.Answering.{grants_answered}
use Rattle.pool_promises.proofs.declaring.declared_grants_are_answered.Goals as goal

pub returns : goal.returns
returns c = grants_answered
