use Rattle.std.proofs.Common.{◌≡◌, ◌++◌, map}
use Rattle.std.specs.List.{flat_map, range_with_len}
use Rattle.pool_history.specs.Summary.{account_line}
use Rattle.payouts.specs.SummaryTotals.{sums_at}
use Rattle.payouts.proofs.writing.put_accounts.Given as goal

abbrev pub invariant-loop-place : goal.invariant-loop-place
invariant-loop-place l =
    l.out.items ≡ l.initial.out.items ++ flat_map account_line (map (sums_at l.tally) (range_with_len 0 l.place))
