use Rattle.job_declaration.proofs.Trees.{paths-lead}
use Rattle.job_declaration.proofs.laws.paths_lead_to_the_root.Goals as goal

pub returns : goal.returns
returns c = paths-lead
