use Rattle.ledger_records.proofs.Records.{one_event}
use Rattle.ledger_records.proofs.laws.records_are_of_one_event.Goals as goal

pub returns : goal.returns
returns c = one_event
