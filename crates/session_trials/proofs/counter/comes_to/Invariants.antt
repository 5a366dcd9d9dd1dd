use Rattle.std.proofs.Common.{◌≡◌}
use Rattle.session_trials.proofs.counter.comes_to.Given as goal

abbrev pub invariant-loop : goal.invariant-loop
invariant-loop l = l.pass.table ≡ l.fn.pass.table
