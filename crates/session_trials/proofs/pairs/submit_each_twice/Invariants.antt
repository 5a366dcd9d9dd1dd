use Rattle.std.proofs.Common.{◌≡◌, ◌≤◌}
use Rattle.session_trials.proofs.pairs.submit_each_twice.Given as goal

abbrev pub invariant-loop-number : goal.invariant-loop-number
invariant-loop-number g l = (l.pass.table ≡ l.desk.table) × (l.credits ≤ l.number)
