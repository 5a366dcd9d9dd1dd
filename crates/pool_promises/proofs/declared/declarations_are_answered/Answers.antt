use Rattle.pool_promises.proofs.DeclaredAnswers.{grants_answered}
use Rattle.pool_promises.proofs.declared.declarations_are_answered.Goals as goal

pub returns : goal.returns
returns c = grants_answered c.declared_grants_are_answered.ensures
