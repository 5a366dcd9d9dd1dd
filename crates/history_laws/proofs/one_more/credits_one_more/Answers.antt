use Rattle.history_laws.proofs.Stepping.{credits-one_more}
use Rattle.history_laws.proofs.one_more.credits_one_more.Goals as goal

pub returns : goal.returns
returns c = credits-one_more
