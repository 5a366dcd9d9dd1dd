use Rattle.history_laws.proofs.Allowed.{openings-lowest}
use Rattle.history_laws.proofs.openings.openings_get_lowest.Goals as goal

pub returns : goal.returns
returns c = openings-lowest
