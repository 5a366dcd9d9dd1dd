use Rattle.v1_translate.proofs.Asks.{asked_on}
use Rattle.v1_translate.proofs.laws.sessions_ask_on_their_channel.Goals as goal

pub returns : goal.returns
returns c = asked_on
