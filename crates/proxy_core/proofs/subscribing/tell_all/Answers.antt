use Rattle.std.proofs.Common.{arith}
use Rattle.proxy_rules.specs.Jobs.{job_told}
use Rattle.proxy_core.proofs.Held.{tell_step}
use Rattle.proxy_core.proofs.subscribing.tell_all.Goals as goal

pub loop-job-preserved : goal.loop-job-preserved
loop-job-preserved c =
    tell_step c.args.terms.now job_told c.args.held.now c.loop-job.job-index c.job-item.result c.args.miner.now c.loop-job.miner c.tell.new.self _
    (omega arith) c.job-item.is c.loop-job.invariant c.own_message.ensures c.in_ok-tell.ensures
