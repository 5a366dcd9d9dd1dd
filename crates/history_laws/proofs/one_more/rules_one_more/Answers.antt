use Rattle.history_laws.proofs.Stepping.{rules-one_more}
use Rattle.history_laws.proofs.one_more.rules_one_more.Goals as goal

pub returns : goal.returns
returns c = rules-one_more
