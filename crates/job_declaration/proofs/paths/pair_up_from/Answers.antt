use Rattle.std.proofs.Common.{◌+◌, ◌*◌, ◌++◌, length, drop, take, sym, arith}
use Rattle.job_declaration.specs.Tree.{row_above}
use Rattle.job_declaration.proofs.Trees.{row_above-step, row_above-done}
use Rattle.job_declaration.proofs.paths.pair_up_from.Goals as goal

pub loop-i-preserved : goal.loop-i-preserved
loop-i-preserved c =
    row_above-step (take c.args.done c.args.row.now ++ row_above (drop (1 + 2 * c.args.done) c.args.row.now)) c.loop-i.row c.loop-i.i c.min.result (omega arith)
    (rw c.loop-i.auto.row c.min.ensures) c.loop-i.invariant c.root_of.result c.root_of.ensures

pub returns-clause-above : goal.returns-clause-above
returns-clause-above c =
    row_above-done (take c.args.done c.args.row.now ++ row_above (drop (1 + 2 * c.args.done) c.args.row.now)) c.loop-i.row c.loop-i.i (length c.args.row.now)
    c.loop-i.auto.row (omega arith) c.loop-i.invariant
