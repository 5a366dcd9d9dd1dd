-- The tree of leads: a node stands for a prefix of held leads that are longer, and has a row of bits
-- for each length (this project's own).
use Rattle.std.specs.Prelude.{◌≡◌, ℕ, zero, suc, ◌+◌, ◌<◌, Bool, true, false, not, ◌&&◌, ◌||◌, Option, Some, List, [], ◌∷◌, ◌++◌, length, get_or, is_some, nat_eq}
use Rattle.std.specs.List.{AllByRecursion, list_any}
use Rattle.indexmap.specs.IndexMap.{IndexMap, get}
use Rattle.pool_history.specs.Spaces.{is_free}
use Rattle.history_laws.specs.Openings.{AreLeadsApart}
use Rattle.prefix_space.specs.declared.rows.Row.{Row}
use Rattle.prefix_space.specs.declared.nodes.Node.{Node}
use Rattle.prefix_space.specs.Paths.{IsPrefix, IsShort, node_key}
use Rattle.prefix_space.specs.Rows.{all_bytes, has_bit}

-- no free lead with so many more bytes begins with this string
unfoldable pub is_full : ℕ → List ℕ → List (List ℕ) → Bool
is_full zero string held = not (is_free held string)
is_full (suc more) string held = all_bytes (λ byte. is_full more (string ++ byte ∷ []) held)

-- a lead begins with a string, and has more bytes
abbrev pub is_longer : List ℕ → List ℕ → Bool
is_longer [] [] = false
is_longer [] (byte ∷ lead) = true
is_longer (first ∷ string) [] = false
is_longer (first ∷ string) (byte ∷ lead) = nat_eq first byte && is_longer string lead

abbrev pub is_root : List ℕ → Bool
is_root [] = true
is_root (byte ∷ path) = false

-- the row at a place, and a byte's bit there: the first row is that of leads of one byte
abbrev pub row_at : Node → ℕ → Row
row_at node at = get_or node.rows at (record { words = [] })

abbrev pub bit : Node → ℕ → ℕ → Bool
bit node at byte = has_bit (row_at node at) byte

-- the node of each prefix, if there is one
abbrev pub Nodes : Type 0
Nodes = List ℕ → Option Node

abbrev pub nodes_of : {S : Type 0} → IndexMap ℕ Node S → Nodes
nodes_of map path = get nat_eq map (node_key path)

-- there is a node for the root and each prefix of a longer lead, and no other, and each bit of it
-- says whether the string of the prefix and the byte is full: at the place length path + more
-- for leads of so many bytes more
pub record FitsTree (held : List (List ℕ)) (nodes : Nodes) : Type 0 where
  pub short : AllByRecursion IsShort held
  pub apart : AreLeadsApart held
  pub there : (path : List ℕ) → IsPrefix path
      → is_some (nodes path) ≡ is_root path || list_any (is_longer path) held
  pub bits : (path : List ℕ) (node : Node) (more byte : ℕ) → IsPrefix path
      → nodes path ≡ Some node → length path + more < 4 → byte < 256
      → bit node (length path + more) byte ≡ is_full more (path ++ byte ∷ []) held
