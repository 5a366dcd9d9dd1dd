use Rattle.v1_sessions.proofs.Whole.{said_is_put}
use Rattle.v1_sessions.proofs.laws.said_is_put.Goals as goal

pub returns : goal.returns
returns c = said_is_put
