use Rattle.std.proofs.Common.{◌≡◌, ◌≤◌, count_by, take}
use Rattle.load_command.specs.Loads.{is_credit}
use Rattle.load_command.proofs.counting.count_credits.Given as goal

abbrev pub invariant-loop-at : goal.invariant-loop-at
invariant-loop-at l = (l.count ≡ count_by is_credit (take l.at l.initial.history.events)) × (l.count ≤ l.at)
