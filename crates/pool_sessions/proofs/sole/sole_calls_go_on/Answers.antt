use Rattle.pool_sessions.proofs.Calls.{goes_on}
use Rattle.pool_sessions.proofs.sole.sole_calls_go_on.Goals as goal

pub returns : goal.returns
returns c = goes_on c.answers_keep_legality.ensures
