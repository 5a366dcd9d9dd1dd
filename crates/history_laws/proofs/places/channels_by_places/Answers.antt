use Rattle.history_laws.proofs.Opening.{channels-placed}
use Rattle.history_laws.proofs.places.channels_by_places.Goals as goal

pub returns : goal.returns
returns c = channels-placed
