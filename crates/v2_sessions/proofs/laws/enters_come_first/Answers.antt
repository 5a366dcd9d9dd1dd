use Rattle.v2_sessions.proofs.Entering.{enters_first}
use Rattle.v2_sessions.proofs.laws.enters_come_first.Goals as goal

pub returns : goal.returns
returns c = enters_first
