use Rattle.history_laws.proofs.Stepping.{jobs-one_more}
use Rattle.history_laws.proofs.one_more.jobs_one_more.Goals as goal

pub returns : goal.returns
returns c = jobs-one_more
