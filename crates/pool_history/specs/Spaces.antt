-- The spaces of extranonces (Stratum V2, "Extranonces"; which lead a channel gets is this project's
-- own).
-- Computed on a fresh space and beside held leads (`Rows`).
use Rattle.std.specs.Prelude.{◌≡◌, ℕ, zero, suc, ◌/◌, ◌%◌, ◌^◌, Bool, true, false, not, ◌||◌, Option, None, Some, List, [], ◌∷◌, ◌++◌, length, nat_eq}
use Rattle.std.specs.List.{starts_with, list_any}
use Rattle.pool_history.specs.declared.events.Kind.{Kind}
use Rattle.pool_history.specs.Headers.{extranonce_prefix}

-- the twelve bytes that a channel can mine on: they begin with its prefix
pub record InSpace (kind : Kind) (lead extranonce : List ℕ) : Type 0 where
  pub whole : length extranonce ≡ 12
  pub rest : List ℕ
  pub begins : extranonce ≡ extranonce_prefix kind lead ++ rest

-- one of two leads begins the other
abbrev pub overlap : List ℕ → List ℕ → Bool
overlap a b = starts_with nat_eq a b || starts_with nat_eq b a

-- a lead is free where it begins no held one and none begins it
abbrev pub is_free : List (List ℕ) → List ℕ → Bool
is_free held lead = not (list_any (overlap lead) held)

-- the string of so many bytes that stands at a place in byte order: the number, high byte first
abbrev pub string_at : ℕ → ℕ → List ℕ
string_at zero place = []
string_at (suc len) place = place / 256 ^ len % 256 ∷ string_at len place

-- the first free string from a place on, among so many
unfoldable pub first_free : ℕ → List (List ℕ) → ℕ → ℕ → Option (List ℕ)
first_free len held place zero = None
first_free len held place (suc more) =
    elim (is_free held (string_at len place)) [
      | true ↦ Some
          (string_at len place)
      | false ↦ first_free len held (suc place) more
    ]

-- the lowest free lead of so many bytes, in byte order
abbrev pub lowest : ℕ → List (List ℕ) → Option (List ℕ)
lowest len held = first_free len held 0 (256 ^ len)
