use Rattle.std.proofs.Common.{◌≡◌, sym, ◌∙◌, arith}
use Rattle.payouts.proofs.Added.{dropped}
use Rattle.payouts.proofs.window.drop_oldest.Goals as goal

pub returns-after-loop-left-clause-kept : goal.returns-after-loop-left-clause-kept
returns-after-loop-left-clause-kept c =
    let none : c.loop-left.left ≡ 0 = omega (arith, c.loop-left-test.false) in
    sym (dropped c.loop-left.kept.items c.loop-left.weights.numbers c.loop-left.left c.loop-left.invariant.weighed none) ∙ c.loop-left.invariant.kept

pub returns-after-loop-left-clause-taken : goal.returns-after-loop-left-clause-taken
returns-after-loop-left-clause-taken c = omega (arith, c.loop-left.invariant.taken, c.loop-left-test.false)
