use Rattle.ledger_resume.proofs.Lasting.{lasting}
use Rattle.ledger_resume.proofs.disk_laws.nothing_stored_is_lost.Goals as goal

pub returns : goal.returns
returns c = lasting c.crashes_are_gone_on_with.ensures c.ledgers_are_of_one_history.ensures c.empty_is_legal.ensures
