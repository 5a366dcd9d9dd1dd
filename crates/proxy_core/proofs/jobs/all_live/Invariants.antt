use Rattle.std.proofs.Common.{◌≡◌, ◌++◌, map, take, drop}
use Rattle.proxy_rules.specs.Jobs.{gone_live}
use Rattle.proxy_core.proofs.jobs.all_live.Given as goal

abbrev pub invariant-loop-job : goal.invariant-loop-job
invariant-loop-job l =
    l.job-items ≡ map (gone_live l.min_ntime) (take l.job-index l.fn.held.items) ++ drop l.job-index l.fn.held.items
