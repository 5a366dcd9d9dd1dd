use Rattle.std.proofs.Common.{◌+◌, ◌<◌, ◌≤◌}
use Rattle.std.specs.List.{AllByRecursion}
use Rattle.indexmap.specs.IndexMap.{spare}
use Rattle.prefix_space.specs.Climbs.{AddsWay}
use Rattle.prefix_space.specs.Trees.{nodes_of}
use Rattle.prefix_space.proofs.tree.add_way.Given as goal

abbrev pub invariant-loop-level : goal.invariant-loop-level
invariant-loop-level l = record {
  adds : AllByRecursion (λ byte. byte < 256) l.lead → AddsWay l.lead l.level (nodes_of l.fn.nodes) (nodes_of l.nodes);
  room : spare l.fn.nodes + 1 ≤ spare l.nodes + l.level;
}
