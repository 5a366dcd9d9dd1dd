use Rattle.payout_laws.proofs.WeightsPlaced.{payouts-placed}
use Rattle.payout_laws.proofs.laws.payouts_are_quotients.Goals as goal

pub returns : goal.returns
returns c = payouts-placed
