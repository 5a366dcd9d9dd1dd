use Rattle.std.proofs.Common.{◌∙◌, ap, arith, replicate, ℕ}
use Rattle.payouts.proofs.Weighed.{next-left, none-left}
use Rattle.payouts.proofs.weights.clear_places.Goals as goal

pub loop-place-preserved : goal.loop-place-preserved
loop-place-preserved c = record {
  left = next-left c.loop-place.numbers.items c.args.places.now c.loop-place.place-index c.loop-place.invariant.left c.loop-place-test.true
      (omega (arith, c.requires.known c.loop-place.place-index c.loop-place-test.true, c.loop-place.invariant.length));
  length = c.loop-place.invariant.length;
  capacity = c.loop-place.invariant.capacity;
}

pub index_mut-requires : goal.index_mut-requires
index_mut-requires c = omega (arith, c.requires.known c.loop-place.place-index c.loop-place-test.true, c.loop-place.invariant.length)

pub returns-clause-numbers : goal.returns-clause-numbers
returns-clause-numbers c =
    none-left c.loop-place.numbers.items c.args.places.now c.loop-place.place-index c.loop-place.invariant.left (omega (arith, c.loop-place-test.false))
    ∙ ap (λ n. replicate {A = ℕ} n 0) (omega (arith, c.loop-place.invariant.length))
