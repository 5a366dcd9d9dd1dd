use Rattle.ledger_records.proofs.Records.{old_ledgers_begin}
use Rattle.ledger_records.proofs.laws.old_ledgers_begin_alike.Goals as goal

pub returns : goal.returns
returns c = old_ledgers_begin
