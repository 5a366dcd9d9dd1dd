use Rattle.std.proofs.Common.{arith}
use Rattle.proxy_rules.specs.Jobs.{gone_live}
use Rattle.proxy_core.proofs.Callers.{one_more}
use Rattle.proxy_core.proofs.jobs.all_live.Goals as goal

pub loop-job-preserved : goal.loop-job-preserved
loop-job-preserved c =
    one_more (gone_live c.args.min_ntime) c.args.held.now.items c.loop-job.job-items c.loop-job.job-index c.job-item.result c.go_live.new.self
    (omega arith) c.loop-job.invariant c.go_live.ensures
