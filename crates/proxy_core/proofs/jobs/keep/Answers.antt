use Rattle.std.proofs.Common.{rules}
use Rattle.std.proofs.lemmas.Fn.{filter_same}
use Rattle.proxy_rules.specs.Jobs.{is_job}
use Rattle.proxy_rules.specs.State.{RelayedJob}
use Rattle.proxy_core.proofs.jobs.keep.Goals as goal

pub returns : goal.returns
returns c = filter_same _ (λ (job : RelayedJob). is_job c.args.number job) _ (λ x b f' k. search rules) _ _ c.retain.ensures.filtered
