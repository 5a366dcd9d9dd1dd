use Rattle.proxy_rules.proofs.Sending.{goes_up}
use Rattle.proxy_rules.proofs.laws.submissions_are_of_lines.Goals as goal

pub returns : goal.returns
returns c = goes_up
