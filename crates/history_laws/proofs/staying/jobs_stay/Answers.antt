use Rattle.history_laws.proofs.Living.{jobs-stay}
use Rattle.history_laws.proofs.staying.jobs_stay.Goals as goal

pub returns : goal.returns
returns c = jobs-stay
