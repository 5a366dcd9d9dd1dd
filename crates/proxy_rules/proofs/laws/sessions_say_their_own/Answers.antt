use Rattle.proxy_rules.proofs.Writing.{sessions_say}
use Rattle.proxy_rules.proofs.laws.sessions_say_their_own.Goals as goal

pub returns : goal.returns
returns c = sessions_say
