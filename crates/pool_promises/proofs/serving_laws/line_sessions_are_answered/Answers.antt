use Rattle.pool_promises.proofs.ServedAnswers.{lines_answered}
use Rattle.pool_promises.proofs.serving_laws.line_sessions_are_answered.Goals as goal

pub returns : goal.returns
returns c = lines_answered
