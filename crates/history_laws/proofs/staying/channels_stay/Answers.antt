use Rattle.history_laws.proofs.Keeping.{channels-stay}
use Rattle.history_laws.proofs.staying.channels_stay.Goals as goal

pub returns : goal.returns
returns c = channels-stay
