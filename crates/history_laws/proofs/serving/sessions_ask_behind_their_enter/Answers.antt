use Rattle.history_laws.proofs.EnteredBefore.{sessions-behind}
use Rattle.history_laws.proofs.serving.sessions_ask_behind_their_enter.Goals as goal

pub returns : goal.returns
returns c = sessions-behind
