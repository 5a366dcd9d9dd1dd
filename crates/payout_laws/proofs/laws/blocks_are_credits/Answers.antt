use Rattle.payout_laws.proofs.Counting.{blocks_are}
use Rattle.payout_laws.proofs.laws.blocks_are_credits.Goals as goal

pub returns : goal.returns
returns c = blocks_are
