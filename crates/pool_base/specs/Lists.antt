-- Words on lists that the standard library lacks (this project's own).
use Rattle.std.specs.Prelude.{◌≡◌, List, ◌++◌}

-- the first list begins the second
abbrev pub Begins : {A : Type 0} → List A → List A → Type 0
Begins {A} front whole = (rest : List A) × (front ++ rest ≡ whole)
