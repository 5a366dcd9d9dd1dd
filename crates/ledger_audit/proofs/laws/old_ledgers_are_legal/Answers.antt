use Rattle.ledger_audit.specs.OneVerdict.{old-legal}
use Rattle.ledger_audit.proofs.laws.old_ledgers_are_legal.Goals as goal

pub returns : goal.returns
returns c = old-legal
