use Rattle.std.proofs.Common.{not, rules}
use Rattle.std.proofs.lemmas.Fn.{filter_same}
use Rattle.proxy_rules.specs.Jobs.{is_job}
use Rattle.proxy_rules.specs.State.{RelayedJob}
use Rattle.proxy_core.proofs.jobs.remove.Goals as goal

pub returns : goal.returns
returns c = filter_same _ (λ (job : RelayedJob). not (is_job c.args.number job)) _ (λ x b f' k. search rules) _ _ c.retain.ensures.filtered
