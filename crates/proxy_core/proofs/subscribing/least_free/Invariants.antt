use Rattle.std.proofs.Common.{◌≡◌, ◌-◌}
use Rattle.proxy_rules.specs.Miners.{least_from}
use Rattle.proxy_core.proofs.subscribing.least_free.Given as goal

abbrev pub invariant-loop-place : goal.invariant-loop-place
invariant-loop-place l = least_from 65536 l.held 0 ≡ least_from (65536 - l.place) l.held l.place
