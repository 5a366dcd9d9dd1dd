-- What was given out, what has come back, and what is left to give (this project's own).
use Rattle.std.specs.Prelude.{ℕ, ◌+◌, ◌-◌, List, [], ◌∷◌, ◌++◌, map, Option, None, Some}

-- how many objects of a kind are out, and those that came back, in their order
pub record Lending (T : Type 0) : Type 0 where
  pub lent : ℕ
  pub back : List T

-- one more is out
abbrev pub lent_one : {T : Type 0} → Lending T → Lending T
lent_one shelf = record { lent = shelf.lent + 1; back = shelf.back }

-- one that was out has come back
abbrev pub with_back : {T : Type 0} → Lending T → T → Lending T
with_back shelf item = record { lent = shelf.lent - 1; back = shelf.back ++ item ∷ [] }

-- what is left to give once it was given, where it is told: nothing
abbrev pub nothing_left : {A : Type 0} → Option (List A) → Option (List A)
nothing_left None = None
nothing_left (Some items) = Some []

-- the same, of what contracts see of the objects
abbrev pub lending_seen : {A B : Type 0} → (A → B) → Lending A → Lending B
lending_seen seen shelf = record { lent = shelf.lent; back = map seen shelf.back }
