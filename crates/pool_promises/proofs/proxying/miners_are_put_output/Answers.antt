use Rattle.pool_promises.proofs.Miners.{put_output}
use Rattle.pool_promises.proofs.proxying.miners_are_put_output.Goals as goal

pub returns : goal.returns
returns c = put_output
