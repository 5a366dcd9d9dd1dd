use Rattle.test_miner.proofs.Sharing.{meet_class}
use Rattle.test_miner.proofs.laws.shares_meet_class.Goals as goal

pub returns : goal.returns
returns c = meet_class
