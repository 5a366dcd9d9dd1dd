use Rattle.ledger_records.proofs.Records.{read_back}
use Rattle.ledger_records.proofs.laws.records_are_read_back.Goals as goal

pub returns : goal.returns
returns c = read_back
