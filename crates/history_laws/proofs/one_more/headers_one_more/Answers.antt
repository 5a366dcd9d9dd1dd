use Rattle.history_laws.proofs.Stepping.{headers-one_more}
use Rattle.history_laws.proofs.one_more.headers_one_more.Goals as goal

pub returns : goal.returns
returns c = headers-one_more
