use Rattle.std.proofs.Common.{ℕ, ◌==◌, not, rules}
use Rattle.std.proofs.lemmas.Fn.{filter_same}
use Rattle.channels.proofs.listing.forget_id.Goals as goal

pub returns : goal.returns
returns c = filter_same _ (λ (listed : ℕ). not (listed == c.args.id)) _ (λ x b f' k. search rules) _ _ c.retain.ensures.filtered
