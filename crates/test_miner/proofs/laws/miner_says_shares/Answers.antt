use Rattle.test_miner.proofs.Said.{says_shares}
use Rattle.test_miner.proofs.laws.miner_says_shares.Goals as goal

pub returns : goal.returns
returns c = says_shares
