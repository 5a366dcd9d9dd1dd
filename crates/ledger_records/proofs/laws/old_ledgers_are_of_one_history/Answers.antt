use Rattle.ledger_records.proofs.Records.{old_ledgers}
use Rattle.ledger_records.proofs.laws.old_ledgers_are_of_one_history.Goals as goal

pub returns : goal.returns
returns c = old_ledgers
