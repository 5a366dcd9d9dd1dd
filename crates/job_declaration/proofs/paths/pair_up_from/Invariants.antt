use Rattle.std.proofs.Common.{◌≡◌, ◌+◌, ◌*◌, ◌++◌, drop, take}
use Rattle.job_declaration.specs.Tree.{row_above}
use Rattle.job_declaration.proofs.paths.pair_up_from.Given as goal

-- so many pairs stand in front, and those behind them are as they were
abbrev pub invariant-loop-i : goal.invariant-loop-i
invariant-loop-i l =
    take l.fn.done l.initial.row ++ row_above (drop (1 + 2 * l.fn.done) l.initial.row)
    ≡ take l.i l.row ++ row_above (drop (1 + 2 * l.i) l.row)
