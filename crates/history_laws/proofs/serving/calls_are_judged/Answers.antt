use Rattle.history_laws.proofs.CallsServed.{calls-judged}
use Rattle.history_laws.proofs.serving.calls_are_judged.Goals as goal

pub returns : goal.returns
returns c = calls-judged
