use Rattle.std.proofs.Common.{◌==◌, not, rules}
use Rattle.std.proofs.lemmas.Fn.{filter_same}
use Rattle.v1_translate.specs.Heard.{ToldJob}
use Rattle.v1_translate.proofs.jobs.remove.Goals as goal

pub returns : goal.returns
returns c = filter_same _ (λ (job : ToldJob). not (job.number == c.args.number)) _ (λ x b f' k. search rules) _ _ c.retain.ensures.filtered
