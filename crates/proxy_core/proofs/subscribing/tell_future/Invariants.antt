use Rattle.std.proofs.Common.{◌≡◌, map, take}
use Rattle.proxy_rules.specs.Jobs.{future_told, only}
use Rattle.proxy_rules.specs.Miners.{told_all}
use Rattle.proxy_core.proofs.subscribing.tell_future.Given as goal

abbrev pub invariant-loop-job : goal.invariant-loop-job
invariant-loop-job l = l.miner ≡ told_all l.terms (map future_told (only l.number (take l.job-index l.held))) l.fn.miner
