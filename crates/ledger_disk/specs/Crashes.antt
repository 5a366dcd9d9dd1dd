-- What a ledger tells of its disk, and what a crash may leave of it at each moment (this project's
-- own).
use Rattle.std.specs.Prelude.{ℕ, ◌+◌, ◌≡◌, ◌⊎◌, Bool, true, false, List, [], ◌∷◌, ◌++◌, length, OnErr, Option, Some, IfSome, Result, Ok, Err}
use Rattle.std.specs.Option.{option_map}
use Rattle.ledger_disk.specs.Calls.{DiskSeen}
use Rattle.ledger_disk.specs.Moments.{MayLeave, Moment, last_content, synced_content}
use Rattle.ledger_disk.specs.declared.opening.DiskOpenError.{DiskOpenError}
use Rattle.ledger_disk.specs.declared.opening.DiskOpenError.TheVariants.{Fault, Foreign, Memory}
use Rattle.ledger_disk.specs.Entries.{Opens, entries_on}

-- the entries that were on the disk at the last sync
abbrev pub stored_entries : List Moment → List (List ℕ)
stored_entries log = entries_on (synced_content log)

-- how many entries were stored at each moment, the last one first
abbrev pub counts_of : List Moment → List ℕ
counts_of [] = []
counts_of (moment ∷ older) = length (stored_entries (moment ∷ older)) ∷ counts_of older

-- what a ledger keeps, and how many entries were stored at each moment, where its disk tells
abbrev pub entries_told : DiskSeen → Option (List (List ℕ))
entries_told disk = option_map stored_entries disk.log

abbrev pub counts_told : DiskSeen → Option (List ℕ)
counts_told disk = option_map counts_of disk.log

-- whatever a crash leaves behind these calls has P
abbrev pub LeavesOnly : (List ℕ → Type 0) → List Moment → Type 0
LeavesOnly P log = (left : List ℕ) → MayLeave log left → P left

-- a crash leaves the entries that were on the disk at the last sync, and no others
abbrev pub LeavesStored : List Moment → Type 0
LeavesStored log = LeavesOnly (λ left. Opens left (Some (stored_entries log))) log

-- after a crash behind these calls, so many entries having been stored, opening may find this
abbrev pub FindsNow : List Moment → ℕ → Option (List (List ℕ)) → Type 0
FindsNow log count found =
    (left : List ℕ) × MayLeave log left × Opens left found × (length (stored_entries log) ≡ count)

-- the same of a crash at this moment or at an earlier one
abbrev pub MayFind : List Moment → ℕ → Option (List (List ℕ)) → Type 0
MayFind [] count found = FindsNow [] count found
MayFind (moment ∷ older) count found =
    FindsNow (moment ∷ older) count found ⊎ MayFind older count found

-- the same of what a disk tells
abbrev pub MayBeFound : DiskSeen → ℕ → Option (List (List ℕ)) → Type 0
MayBeFound disk count found = IfSome disk.log (λ log. MayFind log count found)

-- a crash at any moment of a call leaves just these entries, so many being stored, or what one might
-- have left before
abbrev pub FindsJust : List (List ℕ) → (old new : ℕ → Option (List (List ℕ)) → Type 0) → Type 0
FindsJust entries old new =
    (count : ℕ) (found : Option (List (List ℕ))) → new count found
    → old count found ⊎ ((count ≡ length entries) × (found ≡ Some entries))

-- behind each of these calls P holds of what was done until then
abbrev pub AtEach : (List Moment → Type 0) → (calls old : List Moment) → Type 0
AtEach P [] old = Unit {0}
AtEach P (moment ∷ calls) old = P (moment ∷ calls ++ old) × AtEach P calls old

-- at each moment of a call P holds of what was done until then, and the disk tells that
abbrev pub Throughout : (List Moment → Type 0) → List Moment → Option (List Moment) → Type 0
Throughout P old told =
    (calls : List Moment) × (told ≡ Some (calls ++ old)) × AtEach P calls old

-- at a moment of an append these entries are stored, or these and the new one, which is never so where
-- the append fails
abbrev pub StoresMore : {E : Type 0} → List (List ℕ) → List ℕ → Result Unit E → List (List ℕ) → Type 0
StoresMore before bytes result stored =
    (stored ≡ before) ⊎ ((stored ≡ before ++ bytes ∷ []) × OnErr result ⊥)

-- nothing is pending: a crash leaves just what a read gives
abbrev pub IsSettled : List Moment → Type 0
IsSettled log = LeavesOnly (λ left. left ≡ last_content log) log

-- the disk of the ledger that was opened, or the one that comes back
abbrev pub disk_after : {A B : Type 0} → (A → DiskSeen) → (B → DiskSeen) → Result A B → DiskSeen
disk_after of_opened of_back (Ok opened) = of_opened opened
disk_after of_opened of_back (Err back) = of_back back

-- the disk failed
abbrev pub is_fault : DiskOpenError → Bool
is_fault Fault = true
is_fault Foreign = false
is_fault Memory = false

-- the disk failed while it was opened
abbrev pub is_failed_opening : {A D : Type 0} → Result A (D × DiskOpenError) → Bool
is_failed_opening (Ok opened) = false
is_failed_opening (Err back) = is_fault back.1
