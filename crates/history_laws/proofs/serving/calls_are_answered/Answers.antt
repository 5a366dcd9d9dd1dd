use Rattle.history_laws.proofs.CallsServed.{calls-answered}
use Rattle.history_laws.proofs.serving.calls_are_answered.Goals as goal

pub returns : goal.returns
returns c = calls-answered
