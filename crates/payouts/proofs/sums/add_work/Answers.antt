use Rattle.std.proofs.Common.{◌+◌, set, ap₂, ◌∙◌}
use Rattle.payouts.proofs.Added.{added-set}
use Rattle.payouts.proofs.sums.add_work.Goals as goal

pub returns-clause-added : goal.returns-clause-added
returns-clause-added c =
    ap₂ (λ n m. set c.args.works.now.items c.args.place (n + m)) c.index_mut.ensures.value c.from.ensures
    ∙ added-set c.args.works.now.items c.args.place c.args.work c.index_mut.result.now c.requires.within
