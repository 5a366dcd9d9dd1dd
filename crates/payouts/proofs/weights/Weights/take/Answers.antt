use Rattle.std.proofs.Common.{◌-◌, ◌<◌, ap, arith, get_or, length}
use Rattle.payouts.proofs.Weighed.{present, read, written-last, written-stays}
use Rattle.payouts.proofs.weights.Weights.take.Goals as goal

pub unlist_place-requires : goal.unlist_place-requires
unlist_place-requires c =
    let within : c.args.place < length c.self.inside.numbers.items = omega (arith, c.requires.within, ap (λ table. length table.numbers) c.self.view_is) in
    let some : 0 < get_or c.self.inside.numbers.items c.args.place 0 = omega (arith, c.requires.some, c.requires.enough, ap (λ table. get_or table.numbers c.args.place 0) c.self.view_is) in
    record {
      slotted = c.self.invariant.slotted;
      known = omega (arith, within, c.self.invariant.same_length);
      listed = omega (arith, present c.self.inside.numbers.items c.self.inside.places.items c.args.place c.self.invariant.once some);
    }

pub invariant_of-self : goal.invariant_of-self
invariant_of-self c =
    let within : c.args.place < length c.self.inside.numbers.items = omega (arith, c.requires.within, ap (λ table. length table.numbers) c.self.view_is) in
    let some : 0 < get_or c.self.inside.numbers.items c.args.place 0 = omega (arith, c.requires.some, c.requires.enough, ap (λ table. get_or table.numbers c.args.place 0) c.self.view_is) in
    written-last c.self.inside.numbers.items c.self.inside.places.items c.self.inside.slots.items c.unlist_place.new.places.items c.unlist_place.new.slots.items c.args.place (c.index.result.now - c.args.work) c.self.invariant within some
    c.if-left-eq0.true c.unlist_place.ensures.places c.unlist_place.ensures.slotted (omega (arith, c.unlist_place.ensures.length))

pub invariant_of-self-else-left-eq0 : goal.invariant_of-self-else-left-eq0
invariant_of-self-else-left-eq0 c =
    let within : c.args.place < length c.self.inside.numbers.items = omega (arith, c.requires.within, ap (λ table. length table.numbers) c.self.view_is) in
    written-stays c.self.inside.numbers.items c.self.inside.places.items c.self.inside.slots.items c.args.place (c.index.result.now - c.args.work) c.self.invariant within
    (omega (arith, c.if-left-eq0.false, read c.self.inside.numbers.items c.args.place c.index.result.now within c.index.ensures)) (omega (arith, c.if-left-eq0.false))
