use Rattle.job_declaration.proofs.Trees.{paths-short}
use Rattle.job_declaration.proofs.laws.paths_are_short.Goals as goal

pub returns : goal.returns
returns c = paths-short
