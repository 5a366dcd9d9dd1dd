use Rattle.ledger_audit.specs.OneVerdict.{one-verdict}
use Rattle.ledger_audit.proofs.laws.verdicts_are_one.Goals as goal

pub returns : goal.returns
returns c = one-verdict
