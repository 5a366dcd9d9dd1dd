use Rattle.std.proofs.Common.{Ok, Err, refl, subst}
use Rattle.std.specs.Prelude.{OnErr, Result}
use Rattle.payouts.specs.Plans.{IsPlanOf}
use Rattle.ledger_replay.proofs.SharesPushed.{pushed, room-stays}
use Rattle.ledger_replay.proofs.share_events.push.Goals as goal

on-err : {T E P : Type 0} (r : Result T E) → P → OnErr r P
on-err (Ok x) p = tt
on-err (Err e) p = p

pub returns-in_err-plan-clause-err : goal.returns-in_err-plan-clause-err
returns-in_err-plan-clause-err c =
    on-err c.from_residual.result (room-stays c.args.tally.now c.plan.new.self c.args.headers.now c.args.headers.now c.plan.ensures.same refl)

pub returns-in_err-reserve-clause-err : goal.returns-in_err-reserve-clause-err
returns-in_err-reserve-clause-err c =
    on-err c.from_residual-in_err-reserve.result
    (room-stays c.args.tally.now c.plan.new.self c.args.headers.now c.reserve.new.self c.plan.ensures.same c.reserve.ensures.same)

pub returns-clause-ok : goal.returns-clause-ok
returns-clause-ok c =
    pushed c.args.tally.now c.plan.new.self c.apply-settled.new.self c.args.headers.now c.reserve.new.self c.insert.new.self c.args.account.now c.args.passed.now
    c.args.fee c.in_ok-plan.plan c.apply-settled.result c.plan.ensures.same c.reserve.ensures.same
    (subst (λ block. IsPlanOf c.args.account.now c.args.passed.now.work block c.in_ok-plan.plan) c.block.ensures c.in_ok-plan.ensures.asked)
    c.apply-settled.ensures.applied c.apply-settled.ensures.summed c.apply-settled.ensures.window c.insert.ensures
