use Rattle.test_miner.proofs.Sharing.{ends_tell}
use Rattle.test_miner.proofs.laws.ends_tell_credits.Goals as goal

pub returns : goal.returns
returns c = ends_tell
