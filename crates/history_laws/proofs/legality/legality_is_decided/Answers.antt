use Rattle.history_laws.proofs.Legalities.{legality_decided}
use Rattle.history_laws.proofs.legality.legality_is_decided.Goals as goal

pub returns : goal.returns
returns c = legality_decided
