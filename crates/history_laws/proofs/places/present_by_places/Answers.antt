use Rattle.history_laws.proofs.Placing.{present-placed}
use Rattle.history_laws.proofs.places.present_by_places.Goals as goal

pub returns : goal.returns
returns c = present-placed
