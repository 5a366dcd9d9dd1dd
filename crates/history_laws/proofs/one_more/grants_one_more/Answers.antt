use Rattle.history_laws.proofs.Stepping.{grants-one_more}
use Rattle.history_laws.proofs.one_more.grants_one_more.Goals as goal

pub returns : goal.returns
returns c = grants-one_more
