use Rattle.std.proofs.Common.{◌≡◌, ℕ, ◌+◌, ◌*◌, ◌<◌, ◌≤◌, List, length}
use Rattle.std.specs.List.{AllByRecursion}
use Rattle.prefix_space.specs.Trees.{FitsTree, nodes_of}
use Rattle.prefix_space.proofs.Finding.{IsOpen}
use Rattle.prefix_space.proofs.tree.find.Given as goal

abbrev pub invariant-loop-level : goal.invariant-loop-level
invariant-loop-level g l = record {
  long : length l.path ≡ l._level;
  each : AllByRecursion (λ byte. byte < 256) l.path;
  opens : (held : List (List ℕ)) → FitsTree held (nodes_of l.nodes) → IsOpen l.len held l.path;
  cost : l.steps ≤ l.fn.steps + 4 * l._level;
}
