use Rattle.payout_laws.proofs.Placed.{blocks_placed}
use Rattle.payout_laws.proofs.laws.blocks_by_places.Goals as goal

pub returns : goal.returns
returns c = blocks_placed
