use Rattle.history_laws.proofs.Legalities.{start_legal}
use Rattle.history_laws.proofs.legality.start_is_legal.Goals as goal

pub returns : goal.returns
returns c = start_legal
