use Rattle.ledger_records.proofs.Records.{ledgers}
use Rattle.ledger_records.proofs.laws.ledgers_are_of_one_history.Goals as goal

pub returns : goal.returns
returns c = ledgers
