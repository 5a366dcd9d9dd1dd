use Rattle.v2_sessions.proofs.Standing.{limits_last}
use Rattle.v2_sessions.proofs.laws.limits_come_last.Goals as goal

pub returns : goal.returns
returns c = limits_last
