use Rattle.ledger_records.proofs.Records.{no_record_begins}
use Rattle.ledger_records.proofs.laws.no_record_begins_another.Goals as goal

pub returns : goal.returns
returns c = no_record_begins
