use Rattle.pool_promises.proofs.Listing.{paths_are_of_listed}
use Rattle.pool_promises.proofs.declaring.fixed_paths_are_of_listed_transactions.Goals as goal

pub returns : goal.returns
returns c = paths_are_of_listed c.asked_paths_are_of_transactions.ensures
