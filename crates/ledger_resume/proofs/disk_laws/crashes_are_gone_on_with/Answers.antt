use Rattle.ledger_resume.proofs.GoneOn.{gone_on}
use Rattle.ledger_resume.proofs.disk_laws.crashes_are_gone_on_with.Goals as goal

pub returns : goal.returns
returns c = gone_on c.prefixes_are_legal.ensures c.legal_histories_start.ensures
