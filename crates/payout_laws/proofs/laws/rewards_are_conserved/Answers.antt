use Rattle.payout_laws.proofs.Conserved.{rewards_conserved}
use Rattle.payout_laws.proofs.laws.rewards_are_conserved.Goals as goal

pub returns : goal.returns
returns c = rewards_conserved
