use Rattle.std.proofs.Common.{◌≡◌}
use Rattle.pool_base.specs.Lists.{Begins}
use Rattle.pool_history.specs.Summary.{AccountSum}
use Rattle.payouts.specs.SummaryTotals.{sums_at}
use Rattle.payouts.proofs.Summed.{begins-through, on_err-given, one-more}
use Rattle.payouts.proofs.writing.put_accounts.Goals as goal

pub loop-place-preserved : goal.loop-place-preserved
loop-place-preserved c =
    let sums : AccountSum = record { account = c.account-sums.result.account.now; work = c.account-sums.result.work; balance = c.account-sums.result.balance } in
    let is : sums ≡ sums_at c.args.tally.now c.loop-place.place = λ i. record { account = c.account-sums.ensures.account i; work = c.account-sums.ensures.work i; balance = c.account-sums.ensures.balance i } in
    one-more c.args.tally.now c.args.out.now.items c.loop-place.out.items c.put_account.new.out.items c.loop-place.place sums c.loop-place.invariant is c.in_ok-put_account.ensures.ok

pub returns-in_err-put_account-clause-err : goal.returns-in_err-put_account-clause-err
returns-in_err-put_account-clause-err c =
    on_err-given (Begins c.args.out.now.items c.put_account.new.out.items) c.from_residual.result
    (begins-through c.args.out.now.items c.loop-place.out.items c.put_account.new.out.items _ c.loop-place.invariant c.in_err-put_account.ensures.err)
