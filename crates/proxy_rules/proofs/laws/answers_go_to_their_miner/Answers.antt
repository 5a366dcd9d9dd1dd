use Rattle.proxy_rules.proofs.Joining.{own_answers}
use Rattle.proxy_rules.proofs.laws.answers_go_to_their_miner.Goals as goal

pub returns : goal.returns
returns c = own_answers
