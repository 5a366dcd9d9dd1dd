use Rattle.test_miner.proofs.Sharing.{numbered}
use Rattle.test_miner.proofs.laws.shares_are_numbered.Goals as goal

pub returns : goal.returns
returns c = numbered
