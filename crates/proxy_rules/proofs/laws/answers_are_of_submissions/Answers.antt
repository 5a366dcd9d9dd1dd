use Rattle.proxy_rules.proofs.Keeping.{are_answered}
use Rattle.proxy_rules.proofs.laws.answers_are_of_submissions.Goals as goal

pub returns : goal.returns
returns c = are_answered
