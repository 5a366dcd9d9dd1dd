use Rattle.v1_translate.proofs.Bits.{versions_kept}
use Rattle.v1_translate.proofs.laws.versions_are_the_jobs.Goals as goal

pub returns : goal.returns
returns c = versions_kept
