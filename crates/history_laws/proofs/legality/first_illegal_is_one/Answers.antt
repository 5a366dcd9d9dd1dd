use Rattle.history_laws.proofs.Legalities.{first_is_one}
use Rattle.history_laws.proofs.legality.first_illegal_is_one.Goals as goal

pub returns : goal.returns
returns c = first_is_one
