use Rattle.proxy_rules.proofs.Spaces.{spaces_apart}
use Rattle.proxy_rules.proofs.laws.spaces_are_apart.Goals as goal

pub returns : goal.returns
returns c = spaces_apart
