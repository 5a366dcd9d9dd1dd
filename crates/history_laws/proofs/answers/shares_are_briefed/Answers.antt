use Rattle.history_laws.proofs.Judged.{briefed}
use Rattle.history_laws.proofs.answers.shares_are_briefed.Goals as goal

pub returns : goal.returns
returns c = briefed
