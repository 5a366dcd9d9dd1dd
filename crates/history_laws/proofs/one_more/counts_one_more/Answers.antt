use Rattle.history_laws.proofs.Stepping.{counts-one_more}
use Rattle.history_laws.proofs.one_more.counts_one_more.Goals as goal

pub returns : goal.returns
returns c = counts-one_more
