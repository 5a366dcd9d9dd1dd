use Rattle.ledger_records.proofs.Growth.{pieces}
use Rattle.ledger_records.proofs.laws.pieces_grow.Goals as goal

pub returns : goal.returns
returns c = pieces
