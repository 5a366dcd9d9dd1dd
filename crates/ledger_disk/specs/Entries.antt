-- The form of a ledger on a disk, and what opening one finds (this project's own).
use Rattle.std.specs.Prelude.{ℕ, ◌+◌, ◌==◌, ◌&&◌, Bool, ◌≡◌, ◌≢◌, ◌⊎◌, ◌<◌, ◌≤◌, if◌then◌else◌, nat_le, zero, suc, List, [], ◌∷◌, ◌++◌, length, take, drop, Option, Some, None}
use Rattle.std.specs.Int.{w32, to_le_bytes, from_le_bytes}

-- SV2DISK1
abbrev pub magic : List ℕ
magic = 83 ∷ 86 ∷ 50 ∷ 68 ∷ 73 ∷ 83 ∷ 75 ∷ 49 ∷ []

-- what stands behind the gate of an entry: its length in four bytes, the lowest first, and its bytes
abbrev pub body : List ℕ → List ℕ
body bytes = to_le_bytes w32 (length bytes) ++ bytes

-- entries with open gates
abbrev pub spelled : List (List ℕ) → List ℕ
spelled [] = []
spelled (bytes ∷ entries) = 1 ∷ body bytes ++ spelled entries

-- the magic, and entries with open gates: all of a ledger but its last gate, which is closed
abbrev pub front : List (List ℕ) → List ℕ
front entries = magic ++ spelled entries

-- the length that the bytes behind a gate begin with
abbrev pub said_length : List ℕ → ℕ
said_length rest = from_le_bytes w32 (take 4 rest)

-- an entry stands at a gate, with this behind it: the gate is open, the length is within the limit,
-- and so many bytes and one byte more are there
abbrev pub is_entry : ℕ → List ℕ → Bool
is_entry gate rest =
    gate == 1 && nat_le (said_length rest) 300100 && nat_le (4 + said_length rest + 1) (length rest)

-- the entry that stands at a place, by the bytes from there on
abbrev pub next_entry : List ℕ → Option (List ℕ)
next_entry [] = None
next_entry (gate ∷ rest) =
    if is_entry gate rest then Some (take (said_length rest) (drop 4 rest)) else None

-- no entry stands there
abbrev pub HasNone : List ℕ → Type 0
HasNone bytes = next_entry bytes ≡ None

-- the entries up to the first place where none is; there are no more of them than bytes
abbrev pub found_in : ℕ → List ℕ → List (List ℕ)
found_in zero bytes = []
found_in (suc most) [] = []
found_in (suc most) (gate ∷ rest) =
    if is_entry gate rest
    then take (said_length rest) (drop 4 rest) ∷ found_in most (drop (4 + said_length rest) rest)
    else []

-- the entries on a disk that begins with the magic; on one of at most eight bytes there are none
abbrev pub entries_on : List ℕ → List (List ℕ)
entries_on content = found_in (length content) (drop 8 content)

-- a disk that has too few bytes for a ledger: it is made anew
abbrev pub IsBlank : List ℕ → Type 0
IsBlank content = length content ≤ 8

-- a disk that holds something else
abbrev pub IsForeign : List ℕ → Type 0
IsForeign content = (8 < length content) × (take 8 content ≢ magic)

-- opening a disk finds these entries; none at all, not even an empty list, where it is foreign
abbrev pub Opens : List ℕ → Option (List (List ℕ)) → Type 0
Opens content (Some entries) =
    (IsBlank content ⊎ (take 8 content ≡ magic)) × (entries_on content ≡ entries)
Opens content None = IsForeign content

-- each of these can be an entry
abbrev pub AreShort : List (List ℕ) → Type 0
AreShort [] = Unit {0}
AreShort (bytes ∷ entries) = (length bytes ≤ 300100) × AreShort entries

-- bytes that begin so
abbrev pub Begins : List ℕ → List ℕ → Type 0
Begins start bytes = (rest : List ℕ) × (bytes ≡ start ++ rest)

-- behind a start stands a gate, which may be any byte, and behind the gate what is next
abbrev pub HasBehind : List ℕ → List ℕ → List ℕ → Type 0
HasBehind start next bytes = (gate : ℕ) × Begins (start ++ gate ∷ next) bytes
