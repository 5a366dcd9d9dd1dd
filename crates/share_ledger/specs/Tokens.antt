-- The path of a token that is asked for (this project's own).
use Rattle.std.specs.Prelude.{◌≡◌, ℕ, Bool, true, false, Option, None, Some, List, []}

-- a path is fixed where one is said, and else there is none
abbrev pub IsFixedPath : Option (List (List ℕ)) → Bool → List (List ℕ) → Type 0
IsFixedPath None fixed path = (fixed ≡ false) × (path ≡ [])
IsFixedPath (Some said) fixed path = (fixed ≡ true) × (path ≡ said)
