use Rattle.ledger_records.proofs.Answered.{answers-kept}
use Rattle.ledger_records.proofs.laws.answers_can_be_kept.Goals as goal

pub returns : goal.returns
returns c = answers-kept
