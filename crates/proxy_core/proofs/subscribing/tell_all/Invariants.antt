use Rattle.std.proofs.Common.{◌≡◌, map, take}
use Rattle.proxy_rules.specs.Jobs.{job_told}
use Rattle.proxy_rules.specs.Miners.{told_all}
use Rattle.proxy_core.proofs.subscribing.tell_all.Given as goal

abbrev pub invariant-loop-job : goal.invariant-loop-job
invariant-loop-job l = l.miner ≡ told_all l.terms (map job_told (take l.job-index l.held)) l.fn.miner
