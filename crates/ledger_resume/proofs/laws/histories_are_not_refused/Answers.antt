use Rattle.ledger_resume.proofs.Excluded.{not_refused}
use Rattle.ledger_resume.proofs.laws.histories_are_not_refused.Goals as goal

pub returns : goal.returns
returns c = not_refused
