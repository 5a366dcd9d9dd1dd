use Rattle.proxy_rules.proofs.ShareIds.{by_a_line}
use Rattle.proxy_rules.proofs.laws.shares_have_the_ids_of_lines.Goals as goal

pub returns : goal.returns
returns c = by_a_line
