use Rattle.history_laws.proofs.Judged.{credits-committed}
use Rattle.history_laws.proofs.answers.credits_are_committed.Goals as goal

pub returns : goal.returns
returns c = credits-committed
