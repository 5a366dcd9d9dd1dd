use Rattle.pool_promises.proofs.Present.{stay-present}
use Rattle.pool_promises.proofs.laws.sessions_stay_present.Goals as goal

pub returns : goal.returns
returns c = stay-present
