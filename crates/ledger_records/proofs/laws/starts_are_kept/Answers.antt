use Rattle.ledger_records.proofs.Started.{starts-kept}
use Rattle.ledger_records.proofs.laws.starts_are_kept.Goals as goal

pub returns : goal.returns
returns c = starts-kept
