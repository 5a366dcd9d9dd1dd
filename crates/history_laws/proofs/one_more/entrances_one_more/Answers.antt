use Rattle.history_laws.proofs.Stepping.{entrances-one_more}
use Rattle.history_laws.proofs.one_more.entrances_one_more.Goals as goal

pub returns : goal.returns
returns c = entrances-one_more
