use Rattle.ledger_resume.proofs.Lasting.{not_refused}
use Rattle.ledger_resume.proofs.disk_laws.own_ledgers_are_not_refused.Goals as goal

pub returns : goal.returns
returns c = not_refused c.crashes_are_gone_on_with.ensures c.ledgers_are_of_one_history.ensures c.empty_is_legal.ensures
