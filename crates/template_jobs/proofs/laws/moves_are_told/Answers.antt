use Rattle.template_jobs.proofs.ToldMoves.{moves-told}
use Rattle.template_jobs.proofs.laws.moves_are_told.Goals as goal

pub returns : goal.returns
returns c = moves-told
