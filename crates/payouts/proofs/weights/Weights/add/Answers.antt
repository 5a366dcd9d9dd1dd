use Rattle.std.proofs.Common.{◌≡◌, ◌+◌, ◌<◌, ◌∙◌, ap, arith, get_or, length, set, sym}
use Rattle.payouts.specs.Window.{added}
use Rattle.payouts.proofs.Weighed.{absent, grown, read, written-first, written-stays}
use Rattle.payouts.proofs.weights.Weights.add.Goals as goal

pub list_place-requires : goal.list_place-requires
list_place-requires c =
    let within : c.args.place < length c.self.inside.numbers.items = omega (arith, c.requires.within, ap (λ table. length table.numbers) c.self.view_is) in
    let none : get_or c.self.inside.numbers.items c.args.place 0 ≡ 0 = sym (read c.self.inside.numbers.items c.args.place c.index-before.result.now within c.index-before.ensures) ∙ c.if-before-eq0.true in
    record {
      slotted = c.self.invariant.slotted;
      known = omega (arith, within, c.self.invariant.same_length);
      absent = absent c.self.inside.numbers.items c.self.inside.places.items c.args.place c.self.invariant.once none;
      room = omega (arith, c.requires.room, ap (λ table. table.list_room) c.self.view_is);
    }

pub invariant_of-self : goal.invariant_of-self
invariant_of-self c =
    let within : c.args.place < length c.self.inside.numbers.items = omega (arith, c.requires.within, ap (λ table. length table.numbers) c.self.view_is) in
    let none : get_or c.self.inside.numbers.items c.args.place 0 ≡ 0 = sym (read c.self.inside.numbers.items c.args.place c.index-before.result.now within c.index-before.ensures) ∙ c.if-before-eq0.true in
    written-first c.self.inside.numbers.items c.self.inside.places.items c.self.inside.slots.items c.list_place.new.places.items c.list_place.new.slots.items c.args.place (c.index-before.result.now + c.from.result) c.self.invariant within none
    (omega (arith, c.requires.some, c.from.ensures)) c.list_place.ensures.places c.list_place.ensures.slotted (omega (arith, c.list_place.ensures.length))

pub invariant_of-self-else-before-eq0 : goal.invariant_of-self-else-before-eq0
invariant_of-self-else-before-eq0 c =
    let within : c.args.place < length c.self.inside.numbers.items = omega (arith, c.requires.within, ap (λ table. length table.numbers) c.self.view_is) in
    written-stays c.self.inside.numbers.items c.self.inside.places.items c.self.inside.slots.items c.args.place (c.index-before.result.now + c.from.result) c.self.invariant within
    (omega (arith, c.if-before-eq0.false, read c.self.inside.numbers.items c.args.place c.index-before.result.now within c.index-before.ensures)) (omega (arith, c.if-before-eq0.false))

pub returns-then-before-eq0 : goal.returns-then-before-eq0
returns-then-before-eq0 c =
    let within : c.args.place < length c.self.inside.numbers.items = omega (arith, c.requires.within, ap (λ table. length table.numbers) c.self.view_is) in
    ap (λ n. set c.self.inside.numbers.items c.args.place (c.index-before.result.now + n)) c.from.ensures
    ∙ grown c.self.inside.numbers.items c.args.place c.index-before.result.now c.args.work within c.index-before.ensures
    ∙ ap (λ table. added table.numbers c.args.place c.args.work) c.self.view_is

pub returns-else-before-eq0 : goal.returns-else-before-eq0
returns-else-before-eq0 c =
    let within : c.args.place < length c.self.inside.numbers.items = omega (arith, c.requires.within, ap (λ table. length table.numbers) c.self.view_is) in
    ap (λ n. set c.self.inside.numbers.items c.args.place (c.index-before.result.now + n)) c.from.ensures
    ∙ grown c.self.inside.numbers.items c.args.place c.index-before.result.now c.args.work within c.index-before.ensures
    ∙ ap (λ table. added table.numbers c.args.place c.args.work) c.self.view_is
