use Rattle.std.proofs.Common.{cond, ap, ◌∙◌, arith}
use Rattle.std.specs.Prelude.{nat_eq}
use Rattle.indexmap.specs.IndexMap.{get}
use Rattle.prefix_space.specs.Climbs.{or_node}
use Rattle.prefix_space.specs.Paths.{node_key}
use Rattle.prefix_space.specs.Trees.{nodes_of}
use Rattle.prefix_space.proofs.Climbing.{way-step}
use Rattle.prefix_space.proofs.tree.add_way.Goals as goal

pub loop-level-preserved : goal.loop-level-preserved
loop-level-preserved c = record {
  adds = λ each.
      way-step c.args.lead c.loop-level.level (nodes_of c.args.nodes.now) (nodes_of c.loop-level.nodes) (nodes_of c.add_node.new.nodes) c.empty-empty.result
      c.loop-level.auto.level (omega (arith, c.loop-level-test.true, c.len-level-end.ensures.value)) (omega (arith, c.len-level-end.ensures.value, c.len-level-end.ensures.most)) each
      c.empty-empty.ensures
      (λ p.
      c.add_node.ensures.added (node_key p)
      ∙ ap (λ k. cond (nat_eq k (node_key p)) (or_node c.empty-empty.result (get nat_eq c.loop-level.nodes (node_key p))) (get nat_eq c.loop-level.nodes (node_key p)))
      (c.key.ensures ∙ ap node_key c.front.ensures))
      (c.loop-level.invariant.adds each);
  room = omega (arith, c.loop-level.invariant.room, c.add_node.ensures.room);
}
