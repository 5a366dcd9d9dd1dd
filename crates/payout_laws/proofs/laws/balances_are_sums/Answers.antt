use Rattle.payout_laws.proofs.Counting.{balances_sums}
use Rattle.payout_laws.proofs.laws.balances_are_sums.Goals as goal

pub returns : goal.returns
returns c = balances_sums
