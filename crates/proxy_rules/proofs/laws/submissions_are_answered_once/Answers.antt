use Rattle.proxy_rules.proofs.Sending.{answered_once}
use Rattle.proxy_rules.proofs.laws.submissions_are_answered_once.Goals as goal

pub returns : goal.returns
returns c = answered_once
