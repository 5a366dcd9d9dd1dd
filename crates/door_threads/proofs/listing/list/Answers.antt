use Rattle.std.proofs.Common.{refl, arith, rules}
use Rattle.door_threads.proofs.Lists.{listing_all, listing_none}
use Rattle.door_threads.proofs.listing.list.Goals as goal

pub loop-door-init : goal.loop-door-init
loop-door-init g c = record {
  listing = listing_none c.args.doors.now.items c.args.parts.now.items c.requires.empty;
  long = (let empty = c.requires.empty in let room = c.requires.room in grind (arith, empty, room));
  doors_room = refl;
}

pub returns-clause-parts : goal.returns-clause-parts
returns-clause-parts g c =
    let none = c.in_default.ensures.cases in
    listing_all c.args.link c.loop-door.invariant.listing (search rules) c.push_reserved-2.ensures.items c.reverse.ensures.items
