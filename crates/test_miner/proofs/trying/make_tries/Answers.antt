use Rattle.std.proofs.Common.{◌≡◌, ℕ, ◌-◌, sym, ap, ◌∙◌, arith}
use Rattle.test_miner.specs.Trying.{first_meeting}
use Rattle.test_miner.proofs.Tried.{none_left, nothing_more, try_met, try_missed}
use Rattle.test_miner.proofs.trying.make_tries.Goals as goal

pub returns-in_default : goal.returns-in_default
returns-in_default c =
    sym (c.loop-made.invariant ∙ nothing_more c.args.class c.args.job.now (c.args.tries - c.loop-made._made) c.loop-made.next c.in_default.is)

pub returns-then-meets : goal.returns-then-meets
returns-then-meets c =
    rw c.following-next.ensures
    (sym (c.loop-made.invariant
    ∙ try_met c.args.class c.args.job.now c.loop-made._made c.args.tries c.loop-made.next c.in-Some.at c.loop-made-test.true c.in-Some.is (sym c.if-meets.ensures)))

pub loop-made-preserved : goal.loop-made-preserved
loop-made-preserved c =
    rw c.following-next.ensures
    (c.loop-made.invariant
    ∙ try_missed c.args.class c.args.job.now c.loop-made._made c.args.tries c.loop-made.next c.in-Some.at c.loop-made-test.true c.in-Some.is (sym c.if-meets.ensures))

pub returns : goal.returns
returns c =
    let all : c.args.tries - c.loop-made._made ≡ 0 = omega arith in
    sym (c.loop-made.invariant ∙ ap (λ (n : ℕ). first_meeting c.args.class c.args.job.now n c.loop-made.next) all ∙ none_left c.args.class c.args.job.now c.loop-made.next)
