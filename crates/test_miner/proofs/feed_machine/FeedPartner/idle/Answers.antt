use Rattle.test_miner.proofs.FeedStanding.{idle_holds}
use Rattle.test_miner.proofs.feed_machine.FeedPartner.idle.Goals as goal

pub returns-clause-told : goal.returns-clause-told
returns-clause-told c = λ past given taken. (idle_holds c.args.self.now past _ taken.0, taken.1)
