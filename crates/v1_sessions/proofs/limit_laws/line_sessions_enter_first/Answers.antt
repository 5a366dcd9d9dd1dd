use Rattle.v1_sessions.proofs.Entering.{lines_enter_first}
use Rattle.v1_sessions.proofs.limit_laws.line_sessions_enter_first.Goals as goal

pub returns : goal.returns
returns c = lines_enter_first
