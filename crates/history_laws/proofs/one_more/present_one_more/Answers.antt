use Rattle.history_laws.proofs.Stepping.{present-one_more}
use Rattle.history_laws.proofs.one_more.present_one_more.Goals as goal

pub returns : goal.returns
returns c = present-one_more
