use Rattle.history_laws.proofs.Legalities.{one_more_legal}
use Rattle.history_laws.proofs.legality.one_more_is_legal.Goals as goal

pub returns : goal.returns
returns c = one_more_legal
