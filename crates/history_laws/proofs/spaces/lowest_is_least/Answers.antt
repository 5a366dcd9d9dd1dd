use Rattle.history_laws.proofs.Lowest.{lowest-least}
use Rattle.history_laws.proofs.spaces.lowest_is_least.Goals as goal

pub returns : goal.returns
returns c = lowest-least
