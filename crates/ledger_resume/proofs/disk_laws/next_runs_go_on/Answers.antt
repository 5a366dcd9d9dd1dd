use Rattle.ledger_resume.proofs.GoneOn.{next_run}
use Rattle.ledger_resume.proofs.disk_laws.next_runs_go_on.Goals as goal

pub returns : goal.returns
returns c = next_run c.crashes_are_gone_on_with.ensures c.ledgers_are_of_one_history.ensures
