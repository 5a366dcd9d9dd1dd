use Rattle.history_laws.proofs.Allowed.{channels-fit}
use Rattle.history_laws.proofs.openings.open_channels_fit.Goals as goal

pub returns : goal.returns
returns c = channels-fit
