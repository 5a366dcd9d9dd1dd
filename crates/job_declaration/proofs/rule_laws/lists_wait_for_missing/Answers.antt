use Rattle.job_declaration.proofs.Missing.{lists_wait}
use Rattle.job_declaration.proofs.rule_laws.lists_wait_for_missing.Goals as goal

pub returns : goal.returns
returns c = lists_wait
