use Rattle.v1_sessions.proofs.Answered.{requests_are_answered}
use Rattle.v1_sessions.proofs.laws.requests_are_answered.Goals as goal

pub returns : goal.returns
returns c = requests_are_answered
