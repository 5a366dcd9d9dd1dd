-- The weights of the accounts by their places, and the places that have one, in order (this
-- project's own).
use Rattle.std.specs.Prelude.{ℕ, ◌≤◌, suc, if◌then◌else◌, List, [], ◌∷◌, map, nat_lt}

-- weights by places
pub record AccountWeights : Type 0 where
  pub numbers : List ℕ
  -- so many accounts more need no memory
  pub room : ℕ
  -- so many accounts more can have a weight
  pub list_room : ℕ

-- the places that have a weight
abbrev pub weighed_places : List ℕ → List ℕ
weighed_places [] = []
weighed_places (weight ∷ weights) =
    if nat_lt 0 weight then 0 ∷ map (λ place. suc place) (weighed_places weights)
    else map (λ place. suc place) (weighed_places weights)

-- places rise, and none is below some number
abbrev pub IsRisingFrom : ℕ → List ℕ → Type 0
IsRisingFrom least [] = Unit
IsRisingFrom least (place ∷ places) = (least ≤ place) × IsRisingFrom (suc place) places

-- a place among places that rise, where it isn't there
abbrev pub with_place : ℕ → List ℕ → List ℕ
with_place new [] = new ∷ []
with_place new (place ∷ places) =
    if nat_lt place new then place ∷ with_place new places
    else if nat_lt new place then new ∷ place ∷ places else place ∷ places

-- each weight is at most another
abbrev pub AreAtMost : List ℕ → List ℕ → Type 0
AreAtMost [] [] = Unit
AreAtMost (weight ∷ weights) (most ∷ mosts) = (weight ≤ most) × AreAtMost weights mosts
AreAtMost [] (most ∷ mosts) = ⊥
AreAtMost (weight ∷ weights) [] = ⊥
