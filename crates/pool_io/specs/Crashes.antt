-- What a keeper tells of crashes: how many records are there for good at each moment, and what may be
-- found after a crash (this project's own).
use Rattle.std.specs.Prelude.{ℕ, ◌+◌, ◌≡◌, ◌⊎◌, ◌≤◌, List, [], ◌∷◌, ◌++◌, length, take, replicate, OnErr, Option, Some, IfSome, Result, Ok, Err}
use Rattle.std.specs.Option.{option_map}
use Rattle.pool_io.specs.declared.keeper.KeeperFailed.{KeeperFailed}

-- with the last moment of an append one record more is there for good, where it is answered Ok
abbrev pub counts_at_end : {A : Type 0} → Result A KeeperFailed → ℕ → List ℕ
counts_at_end (Ok done) count = (count + 1) ∷ []
counts_at_end (Err error) count = []

-- at each moment of an append behind so many records these are there for good, and at its last one
-- the new one too, where it is answered Ok
abbrev pub StoresNext : {A : Type 0} → Result A KeeperFailed → ℕ → (old new : Option (List ℕ)) → Type 0
StoresNext result count old new =
    (moments : ℕ)
    × (new ≡ option_map (λ counts. counts_at_end result count ++ (replicate moments count ++ counts)) old)

-- an append behind these records: a crash at any moment of it leaves them, or them and the new one,
-- or what one might have left before; and once the new one is there for good, which is never so where
-- the append fails, them and the new one
abbrev pub FindsMore : {E : Type 0} → List (List ℕ) → List ℕ → Result Unit E
    → (old new : ℕ → Option (List (List ℕ)) → Type 0) → Type 0
FindsMore before bytes result old new =
    (count : ℕ) (found : Option (List (List ℕ))) → new count found
    → old count found
    ⊎ (((count ≡ length before)
    × ((found ≡ Some before) ⊎ (found ≡ Some (before ++ bytes ∷ []))))
    ⊎ ((count ≡ length before + 1) × (found ≡ Some (before ++ bytes ∷ [])) × OnErr result ⊥))

-- the counts of moments, of which none is above the one behind it, nor the last above this one
abbrev pub NeverFell : ℕ → List ℕ → Type 0
NeverFell most [] = Unit {0}
NeverFell most (count ∷ earlier) = (count ≤ most) × NeverFell count earlier

-- so many are there for good now, and never were there more before
abbrev pub RoseTo : ℕ → List ℕ → Type 0
RoseTo count [] = ⊥
RoseTo count (now ∷ earlier) = (now ≡ count) × NeverFell now earlier

-- a crash at a moment when so many records were there for good left just these
abbrev pub IsFrontFound : List (List ℕ) → ℕ → Option (List (List ℕ)) → Type 0
IsFrontFound records count found = (count ≤ length records) × (found ≡ Some (take count records))

-- a keeper that tells what is there for good has all of these records there, never had more, and a
-- crash left no others
abbrev pub IsSettledWith :
    Option (List ℕ) → (ℕ → Option (List (List ℕ)) → Type 0) → List (List ℕ) → Type 0
IsSettledWith stored may_find records =
    IfSome stored (λ counts. RoseTo (length records) counts
    × ((count : ℕ) (found : Option (List (List ℕ))) → may_find count found
    → IsFrontFound records count found))
