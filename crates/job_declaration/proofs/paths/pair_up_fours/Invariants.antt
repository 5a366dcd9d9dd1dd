use Rattle.std.proofs.Common.{◌≡◌, ◌+◌, ◌*◌, ◌++◌, drop, length, take}
use Rattle.job_declaration.specs.Tree.{row_above}
use Rattle.job_declaration.proofs.paths.pair_up_fours.Given as goal

-- so many fours stand in front, and those behind them are as they were
abbrev pub invariant-loop-k : goal.invariant-loop-k
invariant-loop-k l = (length l.row ≡ length l.initial.row)
    × (row_above (drop 1 l.initial.row)
    ≡ take (4 * l.k) l.row ++ row_above (drop (1 + 2 * (4 * l.k)) l.row))
