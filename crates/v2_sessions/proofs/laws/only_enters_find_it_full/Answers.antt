use Rattle.v2_sessions.proofs.Filling.{only_enters}
use Rattle.v2_sessions.proofs.laws.only_enters_find_it_full.Goals as goal

pub returns : goal.returns
returns c = only_enters
