use Rattle.std.proofs.Common.{cond, ap, ◌∙◌}
use Rattle.std.specs.Prelude.{nat_eq}
use Rattle.std.specs.Map.{lookup}
use Rattle.indexmap.specs.IndexMap.{get}
use Rattle.prefix_space.specs.Climbs.{or_node}
use Rattle.prefix_space.specs.Paths.{node_key}
use Rattle.prefix_space.specs.Trees.{nodes_of}
use Rattle.prefix_space.proofs.Holdings.{fits-root}
use Rattle.prefix_space.proofs.tree.plant.Goals as goal

pub returns-clause-fits : goal.returns-clause-fits
returns-clause-fits c =
    fits-root (nodes_of c.args.nodes.now) (nodes_of c.add_node.new.nodes) c.empty.result (λ p. ap (lookup (nat_eq (node_key p))) c.requires.empty) c.empty.ensures
    (λ p.
    c.add_node.ensures.added (node_key p)
    ∙ ap (λ k. cond (nat_eq k (node_key p)) (or_node c.empty.result (get nat_eq c.args.nodes.now (node_key p))) (get nat_eq c.args.nodes.now (node_key p)))
    (c.key.ensures ∙ ap node_key c.root.ensures))
