use Rattle.payout_laws.proofs.WeightsPlaced.{weights-placed}
use Rattle.payout_laws.proofs.laws.weights_by_places.Goals as goal

pub returns : goal.returns
returns c = weights-placed
