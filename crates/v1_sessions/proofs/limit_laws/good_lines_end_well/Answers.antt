use Rattle.v1_sessions.proofs.WholeSessions.{good_lines_well}
use Rattle.v1_sessions.proofs.limit_laws.good_lines_end_well.Goals as goal

pub returns : goal.returns
returns c = good_lines_well
