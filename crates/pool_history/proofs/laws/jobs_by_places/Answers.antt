use Rattle.pool_history.proofs.PlacesOfJobs.{jobs_are_by_places}
use Rattle.pool_history.proofs.laws.jobs_by_places.Goals as goal

pub returns : goal.returns
returns c = jobs_are_by_places
