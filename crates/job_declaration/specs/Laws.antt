-- What holds of each path (this project's own; that the path of the public standard leads to the
-- root of the public standard).
use Rattle.std.specs.Prelude.{◌≡◌, ℕ, ◌^◌, ◌<◌, ◌≤◌, List, ◌∷◌, length}
use Rattle.block_header.specs.Root.{root}
use Rattle.job_declaration.specs.Tree.{merkle_root, path}

-- an id with the path of those behind it leads to the root over it and them
abbrev pub PathsLeadToTheRoot : Type 0
PathsLeadToTheRoot =
    (id : List ℕ) (ids : List (List ℕ)) → root id (path ids) ≡ merkle_root (id ∷ ids)

-- fewer than 2^n ids have a path of at most n hashes
abbrev pub PathsAreShort : Type 0
PathsAreShort =
    (n : ℕ) (ids : List (List ℕ)) → length ids < 2 ^ n → length (path ids) ≤ n
