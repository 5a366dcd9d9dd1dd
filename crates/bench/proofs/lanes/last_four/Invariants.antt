use Rattle.std.proofs.Common.{◌≡◌, ◌<◌, ◌-◌}
use Rattle.bench.specs.Fours.{last_hashes}
use Rattle.bench.proofs.lanes.last_four.Given as goal

abbrev pub invariant-loop-four : goal.invariant-loop-four
invariant-loop-four l = 0 < l.four → l.hashes ≡ last_hashes l.fn.form (l.four - 1)
