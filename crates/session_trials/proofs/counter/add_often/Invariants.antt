use Rattle.std.proofs.Common.{◌≡◌, ◌≤◌}
use Rattle.session_trials.proofs.counter.add_often.Given as goal

abbrev pub invariant-loop-round : goal.invariant-loop-round
invariant-loop-round g l = (l.pass.table ≡ l.desk.table) × (l.replies ≤ l.round)
