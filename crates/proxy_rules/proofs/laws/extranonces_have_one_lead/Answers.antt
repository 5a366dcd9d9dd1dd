use Rattle.proxy_rules.proofs.Spaces.{one_lead}
use Rattle.proxy_rules.proofs.laws.extranonces_have_one_lead.Goals as goal

pub returns : goal.returns
returns c = one_lead
