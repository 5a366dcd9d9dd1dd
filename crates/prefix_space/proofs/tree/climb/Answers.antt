use Rattle.std.proofs.Common.{◌-◌, ap, subst, sym, arith}
use Rattle.std.specs.Prelude.{slice_index}
use Rattle.prefix_space.specs.Paths.{IsPrefix}
use Rattle.prefix_space.specs.Climbs.{IsRenewed}
use Rattle.prefix_space.specs.Trees.{nodes_of}
use Rattle.prefix_space.proofs.Climbing.{IsUp, climb-more, end-up}
use Rattle.prefix_space.proofs.tree.climb.Goals as goal

pub loop-level-init : goal.loop-level-init
loop-level-init g c = record {
  climbed = λ held end fits.
      subst (λ n. IsUp c.args.lead n held (nodes_of c.args.nodes.now) c.end_marks-marks.result) (sym c.len-level.ensures.value)
      (end-up c.args.lead c.args.is_held held (nodes_of c.args.nodes.now) c.end_marks-marks.result end fits
      (λ at long within. c.end_marks-marks.ensures at (omega (arith, long, c.len.ensures.value)) within));
  within = omega (arith, c.len-level.ensures.value);
  room = omega arith;
}

pub loop-level-preserved : goal.loop-level-preserved
loop-level-preserved g c = record {
  climbed = λ held end fits.
      climb-more c.args.lead c.loop-level.level (c.loop-level.level - 1) (slice_index c.bytes.result.now (c.loop-level.level - 1)) c.args.is_held held c.front.result (nodes_of c.loop-level.nodes) (nodes_of c.renew-told.new.nodes)
      c.loop-level.marks c.renew-told.result (omega (arith, c.loop-level-test.true)) c.loop-level.invariant.within (omega (arith, c.len-level.ensures.value, c.len-level.ensures.most))
      c.front.ensures (ap (λ l. slice_index l (c.loop-level.level - 1)) c.bytes.ensures) end (c.loop-level.invariant.climbed held end fits) (subst
      (λ n. IsPrefix c.front.result → IsRenewed c.front.result (slice_index c.bytes.result.now n) c.loop-level.marks (nodes_of c.loop-level.nodes) (nodes_of c.renew-told.new.nodes) c.renew-told.result)
      c.from.ensures c.renew-told.ensures.renewed);
  within = omega (arith, c.loop-level.invariant.within);
  room = omega (arith, c.loop-level.invariant.room, c.renew-told.ensures.room);
}
