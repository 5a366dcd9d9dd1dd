use Rattle.std.proofs.Common.{◌<◌, List, ℕ, arith, get_or, length, subst, sym}
use Rattle.payouts.specs.Listings.{HasWeightsAt}
use Rattle.payouts.proofs.Weighed.{cleared, weightless}
use Rattle.payouts.proofs.weights.Weights.clear.Goals as goal

pub clear_places-requires : goal.clear_places-requires
clear_places-requires c = record {
  known = subst (λ (places : List ℕ). (slot : ℕ) → slot < length places → get_or places slot 0 < length c.self.inside.numbers.items) (sym c.as_slice.ensures.value)
      (λ slot within. omega (arith, c.self.invariant.slotted.known slot within, c.self.invariant.same_length));
  all = subst (HasWeightsAt c.self.inside.numbers.items) (sym c.as_slice.ensures.value) (weightless c.self.inside.numbers.items c.self.inside.places.items c.self.invariant.once);
}

pub invariant_of-self : goal.invariant_of-self
invariant_of-self c =
    cleared c.self.inside.numbers.items c.self.inside.places.items c.self.inside.slots.items _ _ c.self.invariant c.clear_places.ensures.numbers
    (omega (arith, c.clear_places.ensures.length)) c.clear.ensures.items
