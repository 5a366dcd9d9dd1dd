-- The leads that are held (this project's own).
use Rattle.std.specs.Prelude.{ℕ, Bool, List}
use Rattle.std.specs.List.{list_any}
use Rattle.std.specs.Str.{bytes_eq}

-- what a space shows: the held leads, in whatever order, and how many more it has room for
pub record HeldLeads : Type 0 where
  pub held : List (List ℕ)
  pub spare : ℕ

-- a lead is one of those that are held
abbrev pub is_held : List (List ℕ) → List ℕ → Bool
is_held held lead = list_any (λ other. bytes_eq other lead) held
