use Rattle.ledger_records.proofs.Called.{calls-kept}
use Rattle.ledger_records.proofs.laws.calls_can_be_kept.Goals as goal

pub returns : goal.returns
returns c = calls-kept
