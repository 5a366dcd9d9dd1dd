use Rattle.std.proofs.Common.{arith, rules}
use Rattle.door_threads.proofs.Lists.{asked_task, link_task, unlists_all, unlists_begin, unlists_next}
use Rattle.door_threads.proofs.listing.unlist.Goals as goal

pub loop-part-init : goal.loop-part-init
loop-part-init g c = record {
  unlists = unlists_begin c.in-Some.part c.reverse.ensures.items c.in-Some.ensures.items c.requires.empty;
  doors_room = (let l = c.in-Some.ensures.len in let v = c.reverse.ensures.len in let r = c.requires.room in let e = c.requires.empty in grind (arith, l, v, r, e));
}

pub door_of-door-requires : goal.door_of-door-requires
door_of-door-requires g c = asked_task c.pop.new.self.items c.in-Some-pop.part c.loop-part.invariant.unlists c.requires.whole c.in-Some-pop.ensures.items

pub loop-part-preserved : goal.loop-part-preserved
loop-part-preserved g c = record {
  unlists = unlists_next c.in-Some-pop.part c.door_of-door.result.0 c.door_of-door.result.1 c.loop-part.invariant.unlists c.in-Some-pop.ensures.items c.door_of-door.ensures
      c.push_reserved.ensures.items c.saturating_add-faults_told.ensures c.failed_with-door_faults.ensures c.starved_with-door_memory.ensures;
  doors_room = (let l = c.in-Some-pop.ensures.len in let r = c.loop-part.invariant.doors_room in let p = c.push_reserved.ensures.len in let q = c.push_reserved.ensures.capacity in omega (arith, l, r, p, q));
}

pub returns : goal.returns
returns g c =
    let none = c.in_default-pop.ensures.cases in
    unlists_all c.pop-popped.new.self.items c.in-Some.part
    (record {
      doors = c.loop-part.doors;
      link = c.link_of-link.result.0;
      link_end = c.link_of-link.result.1;
      faults = c.saturating_add.result;
      door_faults = c.loop-part.door_faults;
      door_memory = c.loop-part.door_memory;
    })
    c.loop-part.invariant.unlists (search rules) c.reverse.ensures.items c.in-Some.ensures.items c.link_of-link.ensures c.saturating_add.ensures
