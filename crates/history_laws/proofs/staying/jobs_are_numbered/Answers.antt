use Rattle.history_laws.proofs.Numbering.{jobs-numbered_so}
use Rattle.history_laws.proofs.staying.jobs_are_numbered.Goals as goal

pub returns : goal.returns
returns c = jobs-numbered_so
