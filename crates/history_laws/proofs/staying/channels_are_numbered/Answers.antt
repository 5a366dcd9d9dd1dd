use Rattle.history_laws.proofs.Keeping.{are-numbered}
use Rattle.history_laws.proofs.staying.channels_are_numbered.Goals as goal

pub returns : goal.returns
returns c = are-numbered
