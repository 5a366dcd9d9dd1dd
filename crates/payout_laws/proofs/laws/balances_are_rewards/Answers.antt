use Rattle.payout_laws.proofs.Counting.{balances_rewards}
use Rattle.payout_laws.proofs.laws.balances_are_rewards.Goals as goal

pub returns : goal.returns
returns c = balances_rewards
