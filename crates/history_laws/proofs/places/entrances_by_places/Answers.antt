use Rattle.history_laws.proofs.Placing.{entrances-placed}
use Rattle.history_laws.proofs.places.entrances_by_places.Goals as goal

pub returns : goal.returns
returns c = entrances-placed
