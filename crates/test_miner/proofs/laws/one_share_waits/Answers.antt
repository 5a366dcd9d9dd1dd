use Rattle.test_miner.proofs.Sharing.{one_waits}
use Rattle.test_miner.proofs.laws.one_share_waits.Goals as goal

pub returns : goal.returns
returns c = one_waits
