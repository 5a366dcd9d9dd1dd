use Rattle.pool_promises.proofs.Leaving.{by_row}
use Rattle.pool_promises.proofs.declared.declare_leaves_declared.Goals as goal

pub returns : goal.returns
returns c =
    by_row c.declarations_are_by_the_rules.ensures c.histories_fix_listed_paths.ensures c.declarations_are_answered.ensures
