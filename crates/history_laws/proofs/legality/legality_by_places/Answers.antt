use Rattle.history_laws.proofs.Legalities.{legality_placed}
use Rattle.history_laws.proofs.legality.legality_by_places.Goals as goal

pub returns : goal.returns
returns c = legality_placed
