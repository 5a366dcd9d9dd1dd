use Rattle.std.proofs.Common.{◌==◌, not, rules}
use Rattle.std.proofs.lemmas.Fn.{filter_same}
use Rattle.proxy_rules.specs.State.{SentOn}
use Rattle.proxy_core.proofs.waiting.forget.Goals as goal

pub returns : goal.returns
returns c = filter_same _ (λ (sent : SentOn). not (sent.caller == c.args.caller)) _ (λ x b f' k. search rules) _ _ c.retain.ensures.filtered
