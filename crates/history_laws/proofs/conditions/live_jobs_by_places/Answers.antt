use Rattle.history_laws.proofs.LiveJobs.{live-by_places}
use Rattle.history_laws.proofs.conditions.live_jobs_by_places.Goals as goal

pub returns : goal.returns
returns c = live-by_places
