use Rattle.history_laws.proofs.RepliesFit.{answers-fit}
use Rattle.history_laws.proofs.answers.answers_fit.Goals as goal

pub returns : goal.returns
returns c = answers-fit
