use Rattle.std.proofs.Common.{◌≡◌, drop}
use Rattle.std.specs.Vec.{vec_len, vec_capacity}
use Rattle.payouts.specs.Listings.{HasWeightsAt}
use Rattle.payouts.proofs.weights.clear_places.Given as goal

abbrev pub invariant-loop-place : goal.invariant-loop-place
invariant-loop-place l = record {
  left : HasWeightsAt l.numbers.items (drop l.place-index l.places);
  length : vec_len l.numbers ≡ vec_len l.initial.numbers;
  capacity : vec_capacity l.numbers ≡ vec_capacity l.initial.numbers;
}
