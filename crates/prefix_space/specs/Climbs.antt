-- The way from the root to a lead, while the tree is brought up to date along it (this project's
-- own).
use Rattle.std.specs.Prelude.{◌≡◌, ℕ, suc, ◌+◌, ◌<◌, Bool, true, false, cond, ◌&&◌, ◌||◌, Option, None, Some, MatchOption, List, [], ◌∷◌, ◌++◌, length, take, get_or, is_some, nat_eq}
use Rattle.std.specs.List.{AllByRecursion, list_any}
use Rattle.prefix_space.specs.declared.nodes.Node.{Node}
use Rattle.prefix_space.specs.Paths.{IsPrefix, IsShort}
use Rattle.prefix_space.specs.Rows.{all_bytes, any_byte}
use Rattle.prefix_space.specs.Trees.{Nodes, bit, is_full, is_longer, is_root}

-- a lead begins a string, or is it
abbrev pub is_front : List ℕ → List ℕ → Bool
is_front [] string = true
is_front (first ∷ lead) [] = false
is_front (first ∷ lead) (byte ∷ string) = nat_eq first byte && is_front lead string

-- a string begins a lead, and is shorter than some of its bytes
pub record IsOnWay (lead : List ℕ) (level : ℕ) (string : List ℕ) : Type 0 where
  pub above : length string < level
  pub front : string ≡ take (length string) lead

-- the same of a string and a byte behind it
pub record IsStepOnWay (lead : List ℕ) (level : ℕ) (string : List ℕ) (byte : ℕ) : Type 0 where
  pub above : length string < level
  pub front : string ++ byte ∷ [] ≡ take (suc (length string)) lead

-- no bit of a node is set
abbrev pub IsEmptyNode : Node → Type 0
IsEmptyNode node = (at byte : ℕ) → at < 4 → byte < 256 → bit node at byte ≡ false

-- a node, or another where there is none
abbrev pub or_node : Node → Option Node → Option Node
or_node empty None = Some empty
or_node empty (Some node) = Some node

-- the missing nodes on the way are added, but that of the root
pub record AddsWay (lead : List ℕ) (level : ℕ) (old new : Nodes) : Type 0 where
  pub kept : (path : List ℕ) (node : Node) → IsPrefix path → old path ≡ Some node
      → new path ≡ Some node
  pub made : (path : List ℕ) → IsPrefix path → old path ≡ None → 0 < length path
      → IsOnWay lead level path → (node : Node) × (new path ≡ Some node) × IsEmptyNode node
  pub absent : (path : List ℕ) → IsPrefix path → old path ≡ None
      → (0 < length path → IsOnWay lead level path → ⊥) → new path ≡ None

-- the tree fits what is held but for the bits on the way above a level, and for the nodes there,
-- which are there
pub record FitsUpTo (lead : List ℕ) (level : ℕ) (held : List (List ℕ)) (nodes : Nodes) : Type 0 where
  pub way : (path : List ℕ) → IsPrefix path → IsOnWay lead level path
      → is_some (nodes path) ≡ true
  pub there : (path : List ℕ) → IsPrefix path → (IsOnWay lead level path → ⊥)
      → is_some (nodes path) ≡ is_root path || list_any (is_longer path) held
  pub bits : (path : List ℕ) (node : Node) (more byte : ℕ) → IsPrefix path
      → nodes path ≡ Some node → length path + more < 4 → byte < 256
      → (IsStepOnWay lead level path byte → ⊥)
      → bit node (length path + more) byte ≡ is_full more (path ++ byte ∷ []) held

-- what is held leaves the way to a lead free, and the lead itself is held or nothing overlaps it
pub record IsEnd (lead : List ℕ) (is_held : Bool) (held : List (List ℕ)) : Type 0 where
  pub short : AllByRecursion IsShort held
  pub each : AllByRecursion (λ byte. byte < 256) lead
  pub full : (more : ℕ) → is_full more lead held ≡ is_held
  pub clear : (level : ℕ) → level < length lead
      → list_any (λ other. is_front other (take level lead)) held ≡ false

-- for each number of more bytes whether a string is full, from a place on
abbrev pub AreMarks : List Bool → ℕ → List ℕ → List (List ℕ) → Type 0
AreMarks marks at string held = (more : ℕ) → at + more < 4
    → get_or marks (at + more) false ≡ is_full more string held

-- a byte's bit is as marked in each row, and the others are as before
abbrev pub IsMarked : Node → ℕ → List Bool → Node → Type 0
IsMarked old byte marks new = (at other : ℕ) → at < 4 → other < 256
    → bit new at other ≡ cond (nat_eq byte other) (get_or marks at false) (bit old at other)

-- what a node of so many bytes tells of its prefix: no lead of as many bytes is free, and of more
-- bytes none where the row is full
abbrev pub TellsMarks : Node → ℕ → List Bool → Type 0
TellsMarks node level told = (at : ℕ) → at < 4
    → get_or told at false ≡ nat_eq (suc at) level || all_bytes (bit node at)

-- a node is marked, and goes where nothing longer is left
pub record IsRenewed (path : List ℕ) (byte : ℕ) (marks : List Bool) (old new : Nodes) (told : List Bool) : Type 0 where
  pub others : (other : List ℕ) → IsPrefix other → (other ≡ path → ⊥) → new other ≡ old other
  pub here : (node : Node) → old path ≡ Some node
      → (renewed : Node) × IsMarked node byte marks renewed × MatchOption (new path)
      ((is_root path ≡ false) × (any_byte (bit renewed (length path)) ≡ false)
      × ((at : ℕ) → get_or told at false ≡ false))
      (λ left. (left ≡ renewed) × (is_root path || any_byte (bit renewed (length path)) ≡ true)
      × TellsMarks renewed (length path) told)
