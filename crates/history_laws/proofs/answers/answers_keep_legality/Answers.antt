use Rattle.history_laws.proofs.Answering.{answers-legal}
use Rattle.history_laws.proofs.answers.answers_keep_legality.Goals as goal

pub returns : goal.returns
returns c = answers-legal
