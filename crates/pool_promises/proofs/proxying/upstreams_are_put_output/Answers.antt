use Rattle.pool_promises.proofs.Upstreams.{put_output}
use Rattle.pool_promises.proofs.proxying.upstreams_are_put_output.Goals as goal

pub returns : goal.returns
returns c = put_output
