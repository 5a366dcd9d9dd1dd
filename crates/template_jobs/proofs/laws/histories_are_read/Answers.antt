use Rattle.template_jobs.proofs.ToldMoves.{histories-read}
use Rattle.template_jobs.proofs.laws.histories_are_read.Goals as goal

pub returns : goal.returns
returns c = histories-read
