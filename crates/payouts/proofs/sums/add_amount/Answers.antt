use Rattle.std.proofs.Common.{◌+◌, set, ap, ◌∙◌}
use Rattle.payouts.proofs.Added.{added-set}
use Rattle.payouts.proofs.sums.add_amount.Goals as goal

pub returns-clause-added : goal.returns-clause-added
returns-clause-added c =
    ap (λ n. set c.args.balances.now.items c.args.place (n + c.args.amount)) c.index_mut.ensures.value
    ∙ added-set c.args.balances.now.items c.args.place c.args.amount c.index_mut.result.now c.requires.within
