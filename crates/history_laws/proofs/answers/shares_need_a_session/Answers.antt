use Rattle.history_laws.proofs.Judged.{sessions-needed}
use Rattle.history_laws.proofs.answers.shares_need_a_session.Goals as goal

pub returns : goal.returns
returns c = sessions-needed
