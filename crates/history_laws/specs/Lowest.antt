-- The lowest free lead (this project's own).
use Rattle.std.specs.Prelude.{IsTrue, ◌≡◌, ◌↔◌, ◌⊎◌, ◌<◌, ℕ, false, None, Some, List, ◌∷◌, length}
use Rattle.std.specs.List.{AllByRecursion}
use Rattle.pool_history.specs.Spaces.{is_free, lowest}

-- a string of so many bytes
pub record IsString (len : ℕ) (bytes : List ℕ) : Type 0 where
  pub long : length bytes ≡ len
  pub each : AllByRecursion (λ byte. byte < 256) bytes

-- byte order of strings of one length: the first byte that differs is lower
abbrev pub ComesBefore : List ℕ → List ℕ → Type 0
ComesBefore (x ∷ xs) (y ∷ ys) = (x < y) ⊎ ((x ≡ y) × ComesBefore xs ys)
ComesBefore xs ys = ⊥

-- a lead of so many bytes that is free, where none that comes before it is
pub record IsLowestFree (len : ℕ) (held : List (List ℕ)) (lead : List ℕ) : Type 0 where
  pub is_string : IsString len lead
  pub free : IsTrue (is_free held lead)
  pub least : (other : List ℕ) → IsString len other → ComesBefore other lead
      → is_free held other ≡ false

-- no lead of so many bytes is free
abbrev pub NoneIsFree : ℕ → List (List ℕ) → Type 0
NoneIsFree len held = (lead : List ℕ) → IsString len lead → is_free held lead ≡ false

-- what is found is the lowest free lead, and nothing exactly where none is free
pub record FindsLowest (len : ℕ) (held : List (List ℕ)) : Type 0 where
  pub found : (lead : List ℕ) → (lowest len held ≡ Some lead) ↔ IsLowestFree len held lead
  pub none : (lowest len held ≡ None) ↔ NoneIsFree len held

-- so it is for each length and whatever is held
abbrev pub LowestIsLeast : Type 0
LowestIsLeast = (len : ℕ) (held : List (List ℕ)) → FindsLowest len held
