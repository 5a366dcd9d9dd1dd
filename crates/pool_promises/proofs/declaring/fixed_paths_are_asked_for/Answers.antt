use Rattle.pool_promises.proofs.Fixing.{paths_asked_for}
use Rattle.pool_promises.proofs.declaring.fixed_paths_are_asked_for.Goals as goal

pub returns : goal.returns
returns c = paths_asked_for
