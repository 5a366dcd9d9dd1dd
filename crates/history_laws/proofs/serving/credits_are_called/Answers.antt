use Rattle.history_laws.proofs.Called.{credits-called}
use Rattle.history_laws.proofs.serving.credits_are_called.Goals as goal

pub returns : goal.returns
returns c = credits-called
