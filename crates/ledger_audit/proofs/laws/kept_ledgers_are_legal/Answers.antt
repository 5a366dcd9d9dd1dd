use Rattle.ledger_audit.specs.OneVerdict.{kept-legal}
use Rattle.ledger_audit.proofs.laws.kept_ledgers_are_legal.Goals as goal

pub returns : goal.returns
returns c = kept-legal
