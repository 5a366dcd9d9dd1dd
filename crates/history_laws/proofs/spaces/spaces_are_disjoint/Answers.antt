use Rattle.history_laws.proofs.Holding.{spaces-disjoint}
use Rattle.history_laws.proofs.spaces.spaces_are_disjoint.Goals as goal

pub returns : goal.returns
returns c = spaces-disjoint
