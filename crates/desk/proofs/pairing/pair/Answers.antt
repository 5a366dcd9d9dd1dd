use Rattle.std.proofs.Common.{refl, ◌∙◌, arith}
use Rattle.desk.proofs.Pairs.{pairing_more, pairing_none}
use Rattle.desk.proofs.pairing.pair.Goals as goal

pub loop-task-init : goal.loop-task-init
loop-task-init g c = record {
  pairing = pairing_none c.args.tasks.now.items c.args.passes.now.items c.args.parts.now.items c.requires.empty;
  as_many = c.requires.as_many;
  long = (let empty = c.requires.empty in let room = c.requires.room in grind (arith, empty, room));
  tasks_room = refl;
  passes_room = refl;
}

pub loop-task-preserved : goal.loop-task-preserved
loop-task-preserved g c = record {
  pairing = pairing_more c.in-Some.task c.in-Some-popped.pass c.loop-task.invariant.pairing c.in-Some.ensures.items c.in-Some-popped.ensures.items c.push_reserved.ensures.items;
  as_many = (let a = c.loop-task.invariant.as_many in let b = c.in-Some.ensures.len in let d = c.in-Some-popped.ensures.len in omega (arith, a, b, d));
  long = (let a = c.loop-task.invariant.long in let b = c.in-Some.ensures.len in let p = c.push_reserved.ensures.len in let q = c.push_reserved.ensures.capacity in omega (arith, a, b, p, q));
  tasks_room = c.pop.ensures.capacity ∙ c.loop-task.invariant.tasks_room;
  passes_room = c.pop-popped.ensures.capacity ∙ c.loop-task.invariant.passes_room;
}
