use Rattle.pool_server.proofs.Calls.{goes_on}
use Rattle.pool_server.proofs.worker.desk_calls_go_on.Goals as goal

pub returns : goal.returns
returns c = goes_on
