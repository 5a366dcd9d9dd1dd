use Rattle.history_laws.proofs.LiveJobs.{live-since}
use Rattle.history_laws.proofs.conditions.live_jobs_say_since.Goals as goal

pub returns : goal.returns
returns c = live-since
