use Rattle.history_laws.proofs.Judged.{judged}
use Rattle.history_laws.proofs.answers.shares_are_judged.Goals as goal

pub returns : goal.returns
returns c = judged
