use Rattle.std.proofs.Common.{◌≡◌, ap, arith, length, set}
use Rattle.payouts.proofs.Slotted.{slotted-listed}
use Rattle.payouts.proofs.places.list_place.Goals as goal

pub returns-clause-slotted : goal.returns-clause-slotted
returns-clause-slotted c =
    let long : c.len.result ≡ length c.args.places.now.items = omega (arith, c.len.ensures) in
    slotted-listed c.args.places.now.items c.args.slots.now.items _ _ c.args.place c.requires.slotted c.requires.known c.requires.absent c.push_reserved.ensures.items
    (ap (set c.args.slots.now.items c.args.place) long)
