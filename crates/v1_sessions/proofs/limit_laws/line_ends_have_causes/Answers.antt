use Rattle.v1_sessions.proofs.WholeSessions.{ends_have_causes}
use Rattle.v1_sessions.proofs.limit_laws.line_ends_have_causes.Goals as goal

pub returns : goal.returns
returns c = ends_have_causes
