use Rattle.std.proofs.Common.{◌≤◌, length}
use Rattle.channels.proofs.Forgetting.{AreLookedAt}
use Rattle.channels.proofs.settings.count_unasked.Given as goal

abbrev pub invariant-loop-count : goal.invariant-loop-count
invariant-loop-count l = record {
  within : l.count ≤ length l.settings;
  looked : AreLookedAt l.oldest l.settings l.count;
}

abbrev pub decreases-loop-count : goal.decreases-loop-count
decreases-loop-count l = l.count
