use Rattle.v1_sessions.proofs.WholeSessions.{limits_kept}
use Rattle.v1_sessions.proofs.limit_laws.line_sessions_keep_limits.Goals as goal

pub returns : goal.returns
returns c = limits_kept
