use Rattle.std.proofs.Common.{◌∙◌, IsPermutation, ap, subst}
use Rattle.payouts.specs.Weights.{weighed_places}
use Rattle.payouts.proofs.Times.{sorted-weighed}
use Rattle.payouts.proofs.weights.Weights.sorted_places.Goals as goal

pub returns : goal.returns
returns c =
    sorted-weighed c.self.inside.numbers.items c.self.inside.places.items c.sort_unstable.new.self.items c.self.invariant.once
    (subst (λ places. IsPermutation places c.sort_unstable.new.self.items) (c.in_ok-places.ensures.items ∙ c.as_slice.ensures.value) c.sort_unstable.ensures.permutation) c.sort_unstable.ensures.sorted
    ∙ ap (λ table. weighed_places table.numbers) c.self.view_is
