use Rattle.ledger_records.proofs.Records.{formats_differ}
use Rattle.ledger_records.proofs.laws.formats_differ.Goals as goal

pub returns : goal.returns
returns c = formats_differ
