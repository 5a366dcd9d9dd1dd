-- What a space keeps: the numbers of the held leads, and the tree over them (this project's own).
use Rattle.std.specs.Prelude.{◌≡◌, ℕ, ◌/◌, List, map, min}
use Rattle.std.specs.List.{AllByRecursion}
use Rattle.indexmap.specs.IndexMap.{IndexMap, spare as node_spare}
use Rattle.indexmap.specs.IndexSet.{IndexSet, spare as set_spare}
use Rattle.prefix_space.specs.declared.nodes.Node.{Node}
use Rattle.prefix_space.specs.Paths.{lead_key, lead_of}
use Rattle.prefix_space.specs.Trees.{FitsTree, nodes_of}

-- the held leads
abbrev pub leads_of : {S : Type 0} → IndexSet ℕ S → List (List ℕ)
leads_of set = map lead_of set.keys

-- so many leads need no memory: each is one number and has three nodes at most beside the root
abbrev pub lead_room : {S T : Type 0} → IndexSet ℕ S → IndexMap ℕ Node T → ℕ
lead_room set map = min (set_spare set) (node_spare map / 3)

-- each number is that of its lead, and the tree fits the leads
pub record IsSpace {S T : Type 0} (set : IndexSet ℕ S) (map : IndexMap ℕ Node T) : Type 0 where
  pub numbers : AllByRecursion (λ key. key ≡ lead_key (lead_of key)) set.keys
  pub fits : FitsTree (leads_of set) (nodes_of map)
