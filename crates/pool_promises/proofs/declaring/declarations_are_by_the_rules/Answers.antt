use Rattle.pool_promises.proofs.Answering.{by_rules}
use Rattle.pool_promises.proofs.declaring.declarations_are_by_the_rules.Goals as goal

pub returns : goal.returns
returns c = by_rules
