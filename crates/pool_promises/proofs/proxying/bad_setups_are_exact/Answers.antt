use Rattle.pool_promises.proofs.Setups.{setups_exact}
use Rattle.pool_promises.proofs.proxying.bad_setups_are_exact.Goals as goal

pub returns : goal.returns
returns c = setups_exact
