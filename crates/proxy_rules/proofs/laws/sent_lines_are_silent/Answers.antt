use Rattle.proxy_rules.proofs.Asking.{sent_is_silent}
use Rattle.proxy_rules.proofs.laws.sent_lines_are_silent.Goals as goal

pub returns : goal.returns
returns c = sent_is_silent
