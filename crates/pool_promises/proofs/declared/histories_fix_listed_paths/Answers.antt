use Rattle.pool_promises.proofs.DeclaredFixing.{fixes_listed}
use Rattle.pool_promises.proofs.declared.histories_fix_listed_paths.Goals as goal

pub returns : goal.returns
returns c =
    fixes_listed c.fixed_paths_are_of_listed_transactions.ensures c.fixed_paths_are_asked_for.ensures
