use Rattle.v1_sessions.proofs.Whole.{sessions_are_folds}
use Rattle.v1_sessions.proofs.laws.sessions_are_folds.Goals as goal

pub returns : goal.returns
returns c = sessions_are_folds
