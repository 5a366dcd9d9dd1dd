use Rattle.ledger_records.proofs.KeptOnes.{kept-ledgers}
use Rattle.ledger_records.proofs.laws.kept_ledgers_are_of_one_history.Goals as goal

pub returns : goal.returns
returns c = kept-ledgers
