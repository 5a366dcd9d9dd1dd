use Rattle.job_declaration.proofs.Transactions.{paths_are_of_transactions}
use Rattle.job_declaration.proofs.rule_laws.asked_paths_are_of_transactions.Goals as goal

pub returns : goal.returns
returns c = paths_are_of_transactions
