use Rattle.history_laws.proofs.CallsServed.{calls-legal}
use Rattle.history_laws.proofs.serving.calls_keep_legality.Goals as goal

pub returns : goal.returns
returns c = calls-legal
