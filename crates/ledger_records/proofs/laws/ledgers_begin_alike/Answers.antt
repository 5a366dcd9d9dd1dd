use Rattle.ledger_records.proofs.Records.{ledgers_begin}
use Rattle.ledger_records.proofs.laws.ledgers_begin_alike.Goals as goal

pub returns : goal.returns
returns c = ledgers_begin
