use Rattle.pool_promises.proofs.Keeping.{keep_laws}
use Rattle.pool_promises.proofs.proxying.proxies_keep_laws.Goals as goal

pub returns : goal.returns
returns c = keep_laws
