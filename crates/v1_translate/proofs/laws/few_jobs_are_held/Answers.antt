use Rattle.v1_translate.proofs.Held.{few_held}
use Rattle.v1_translate.proofs.laws.few_jobs_are_held.Goals as goal

pub returns : goal.returns
returns c = few_held
