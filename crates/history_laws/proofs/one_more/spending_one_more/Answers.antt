use Rattle.history_laws.proofs.Stepping.{spending-one_more}
use Rattle.history_laws.proofs.one_more.spending_one_more.Goals as goal

pub returns : goal.returns
returns c = spending-one_more
