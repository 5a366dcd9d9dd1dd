use Rattle.ledger_records.proofs.Growth.{grows}
use Rattle.ledger_records.proofs.laws.ledgers_grow.Goals as goal

pub returns : goal.returns
returns c = grows
