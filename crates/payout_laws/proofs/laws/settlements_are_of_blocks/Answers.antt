use Rattle.payout_laws.proofs.Counting.{settlements_are}
use Rattle.payout_laws.proofs.laws.settlements_are_of_blocks.Goals as goal

pub returns : goal.returns
returns c = settlements_are
