use Rattle.proxy_rules.proofs.Stepping.{leads_apart}
use Rattle.proxy_rules.proofs.laws.leads_differ.Goals as goal

pub returns : goal.returns
returns c = leads_apart
