use Rattle.std.proofs.Common.{arith}
use Rattle.desk.proofs.Pairs.{unpairing_more, unpairing_none}
use Rattle.desk.proofs.pairing.unpair.Goals as goal

pub loop-part-init : goal.loop-part-init
loop-part-init g c = record {
  unpairs = unpairing_none c.args.parts.items c.requires.empty.0 c.requires.empty.1;
  tasks_room = (let r = c.requires.room.0 in let e = c.requires.empty.0 in grind (arith, r, e));
  passes_room = (let r = c.requires.room.1 in let e = c.requires.empty.1 in grind (arith, r, e));
}

pub loop-part-preserved : goal.loop-part-preserved
loop-part-preserved g c = record {
  unpairs = unpairing_more c.in-Some.part c.loop-part.invariant.unpairs c.in-Some.ensures.items c.push_reserved.ensures.items c.push_reserved-in-Some.ensures.items;
  tasks_room = (let l = c.in-Some.ensures.len in let r = c.loop-part.invariant.tasks_room in let p = c.push_reserved.ensures.len in let q = c.push_reserved.ensures.capacity in omega (arith, l, r, p, q));
  passes_room = (let l = c.in-Some.ensures.len in let r = c.loop-part.invariant.passes_room in let p = c.push_reserved-in-Some.ensures.len in let q = c.push_reserved-in-Some.ensures.capacity in omega (arith, l, r, p, q));
}
