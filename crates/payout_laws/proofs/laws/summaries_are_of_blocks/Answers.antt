use Rattle.payout_laws.proofs.Summed.{summaries_summed}
use Rattle.payout_laws.proofs.laws.summaries_are_of_blocks.Goals as goal

pub returns : goal.returns
returns c = summaries_summed
