use Rattle.test_miner.proofs.FeedStanding.{given_whole}
use Rattle.test_miner.proofs.laws.feed_says_script.Goals as goal

pub returns : goal.returns
returns c = given_whole
