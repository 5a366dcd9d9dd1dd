use Rattle.std.proofs.Common.{ℕ, ◌≤◌, List, length}
use Rattle.indexmap.specs.IndexMap.{spare}
use Rattle.prefix_space.specs.Climbs.{FitsUpTo, IsEnd}
use Rattle.prefix_space.specs.Trees.{nodes_of}
use Rattle.prefix_space.proofs.Climbing.{IsUp}
use Rattle.prefix_space.proofs.tree.climb.Given as goal

abbrev pub invariant-loop-level : goal.invariant-loop-level
invariant-loop-level g l = record {
  climbed : (held : List (List ℕ)) → IsEnd l.lead l.is_held held → FitsUpTo l.lead (length l.lead) held (nodes_of l.fn.nodes)
      → IsUp l.lead l.level held (nodes_of l.nodes) l.marks;
  within : l.level ≤ length l.lead;
  room : spare l.fn.nodes ≤ spare l.nodes;
}

abbrev pub decreases-loop-level : goal.decreases-loop-level
decreases-loop-level g l = l.level
