-- What is kept under ids, in the order of the ids (this project's own).
use Rattle.std.specs.Prelude.{ℕ, if◌then◌else◌, List, [], ◌∷◌, nat_lt}

-- entries in rising order, with one more among them
abbrev pub with_entry : {X : Type 0} → ℕ × X → List (ℕ × X) → List (ℕ × X)
with_entry entry [] = entry ∷ []
with_entry entry (first ∷ later) =
    if nat_lt entry.0 first.0 then entry ∷ first ∷ later else first ∷ with_entry entry later

-- the entries in the order of their ids, in whatever order they are kept
abbrev pub by_id : {X : Type 0} → List (ℕ × X) → List (ℕ × X)
by_id [] = []
by_id (entry ∷ others) = with_entry entry (by_id others)
