use Rattle.history_laws.proofs.Stepping.{channels-one_more}
use Rattle.history_laws.proofs.one_more.channels_one_more.Goals as goal

pub returns : goal.returns
returns c = channels-one_more
