use Rattle.payouts.proofs.Weighed.{newcomer}
use Rattle.payouts.proofs.weights.Weights.push_newcomer.Goals as goal

pub invariant_of-self : goal.invariant_of-self
invariant_of-self c =
    newcomer c.self.inside.numbers.items c.self.inside.places.items c.self.inside.slots.items _ _ c.self.invariant c.push_reserved.ensures.items c.push_reserved-2.ensures.items
