use Rattle.std.proofs.Common.{◌≡◌, ◌<◌, ◌-◌}
use Rattle.bench.specs.Shares.{share_hash}
use Rattle.bench.proofs.shares.last_share.Given as goal

abbrev pub invariant-loop-number : goal.invariant-loop-number
invariant-loop-number l = 0 < l.number → l.hash ≡ share_hash l.fn.assembly l.fn.path l.fn.header (l.number - 1)
