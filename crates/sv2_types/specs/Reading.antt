-- Where a value begins the bytes that are left, and what is wrong where none does (this project's
-- own).
use Rattle.std.specs.Prelude.{◌≡◌, ℕ, zero, suc, ◌+◌, ◌*◌, ◌/◌, ◌%◌, ◌^◌, ◌<◌, ◌==◌, Bool, if◌then◌else◌, nat_lt, Option, None, Some, Result, IsOkAnd, List, [], ◌∷◌, ◌++◌, length, take, drop}
use Rattle.std.specs.List.{flat_map, AllByRecursion}
use Rattle.std.specs.Simd.{first_chunks}
use Rattle.std.specs.Str.{is_utf8}
use Rattle.sv2_types.specs.Spelling.{spelled_b16m}
use Rattle.sv2_types.specs.declared.error.ReadError.{ReadError}
use Rattle.sv2_types.specs.declared.error.ReadError.TheVariants.{Short, LengthTooGreat, NotUtf8, CountTooGreat}
use Rattle.sv2_types.specs.Fields.{FieldType, FieldValue, U8, U16, U24, U32, U64, UINT256, BOOL, F32, STR0_255, B0_255, B0_32, B0_64K, B0_16M, OPTION_U32, SEQ0_255_U256, SEQ0_64K_U256, SEQ0_64K_U16, SEQ0_64K_B0_16M, Number, Truth, Bytes, Perhaps, Numbers, Parts, Admits, spelling, SpellsTruth, Spells}
use Rattle.sv2_types.specs.Cursor.{Cursor, MovesOver}

-- the number with these bytes, low byte first
abbrev pub low_first : List ℕ → ℕ
low_first [] = 0
low_first (byte ∷ more) = byte + 256 * low_first more

-- what the first bytes say as a length or a count; a byte that is missing says 0
abbrev pub said : ℕ → List ℕ → ℕ
said width rest = low_first (take width rest)

-- the numbers of two bytes that lie one after the other
abbrev pub numbers_at : ℕ → List ℕ → List ℕ
numbers_at zero rest = []
numbers_at (suc count) rest = said 2 rest ∷ numbers_at count (drop 2 rest)

-- the numbers of two bytes that the bytes are, one after the other
abbrev pub numbers_of : List ℕ → List ℕ
numbers_of spelled = numbers_at (length spelled / 2) spelled

-- the byte strings that lie one after the other, each behind three bytes of length
abbrev pub parts_at : ℕ → List ℕ → List (List ℕ)
parts_at zero rest = []
parts_at (suc count) rest =
    take (said 3 rest) (drop 3 rest) ∷ parts_at count (drop (3 + said 3 rest) rest)

-- how many bytes so many byte strings take, each behind three bytes of length, by those lengths
abbrev pub parts_size : ℕ → List ℕ → ℕ
parts_size zero rest = 0
parts_size (suc count) rest = 3 + said 3 rest + parts_size count (drop (3 + said 3 rest) rest)

-- the bytes are so many byte strings, each behind three bytes of length
pub record SpellsParts (count : ℕ) (spelled : List ℕ) : Type 0 where
  pub parts : List (List ℕ)
  pub counted : length parts ≡ count
  pub fits : AllByRecursion (λ part. length part < 2 ^ 24) parts
  pub joined : spelled ≡ flat_map spelled_b16m parts

-- how many bytes a value at the front takes, by its own lengths and counts
abbrev pub size : FieldType → List ℕ → ℕ
size U8 rest = 1
size U16 rest = 2
size U24 rest = 3
size U32 rest = 4
size U64 rest = 8
size UINT256 rest = 32
size BOOL rest = 1
size F32 rest = 4
size STR0_255 rest = 1 + said 1 rest
size B0_255 rest = 1 + said 1 rest
size B0_32 rest = 1 + said 1 rest
size B0_64K rest = 2 + said 2 rest
size B0_16M rest = 3 + said 3 rest
size OPTION_U32 rest = 1 + 4 * said 1 rest
size SEQ0_255_U256 rest = 1 + 32 * said 1 rest
size SEQ0_64K_U256 rest = 2 + 32 * said 2 rest
size SEQ0_64K_U16 rest = 2 + 2 * said 2 rest
size SEQ0_64K_B0_16M rest = 2 + parts_size (said 2 rest) (drop 2 rest)

-- the value at the front of the bytes
abbrev pub value_at : FieldType → List ℕ → FieldValue
value_at U8 rest = Number (said 1 rest)
value_at U16 rest = Number (said 2 rest)
value_at U24 rest = Number (said 3 rest)
value_at U32 rest = Number (said 4 rest)
value_at U64 rest = Number (said 8 rest)
value_at UINT256 rest = Bytes (take 32 rest)
value_at BOOL rest = Truth (said 1 rest % 2 == 1)
value_at F32 rest = Bytes (take 4 rest)
value_at STR0_255 rest = Bytes (take (said 1 rest) (drop 1 rest))
value_at B0_255 rest = Bytes (take (said 1 rest) (drop 1 rest))
value_at B0_32 rest = Bytes (take (said 1 rest) (drop 1 rest))
value_at B0_64K rest = Bytes (take (said 2 rest) (drop 2 rest))
value_at B0_16M rest = Bytes (take (said 3 rest) (drop 3 rest))
value_at OPTION_U32 rest = Perhaps (if said 1 rest == 0 then None else Some (said 4 (drop 1 rest)))
value_at SEQ0_255_U256 rest = Parts (first_chunks 32 (said 1 rest) (drop 1 rest))
value_at SEQ0_64K_U256 rest = Parts (first_chunks 32 (said 2 rest) (drop 2 rest))
value_at SEQ0_64K_U16 rest = Numbers (numbers_at (said 2 rest) (drop 2 rest))
value_at SEQ0_64K_B0_16M rest = Parts (parts_at (said 2 rest) (drop 2 rest))

-- the bytes end before the value does
abbrev pub short_defect : ℕ → List ℕ → Option ReadError
short_defect needed rest = if nat_lt (length rest) needed then Some Short else None

-- the text behind its length is not UTF-8
abbrev pub text_defect : List ℕ → Option ReadError
text_defect content = if is_utf8 content then None else Some NotUtf8

-- the first defect of the value at the front, or none; a length or a count that is too great comes
-- before what is missing
abbrev pub defect : FieldType → List ℕ → Option ReadError
defect STR0_255 rest =
    if nat_lt (length rest) (size STR0_255 rest) then Some Short
    else text_defect (take (said 1 rest) (drop 1 rest))
defect B0_32 rest =
    if nat_lt 32 (said 1 rest) then Some LengthTooGreat else short_defect (size B0_32 rest) rest
defect OPTION_U32 rest =
    if nat_lt 1 (said 1 rest) then Some CountTooGreat else short_defect (size OPTION_U32 rest) rest
defect type rest = short_defect (size type rest) rest

-- what was read is every value whose spelling begins the bytes left: there is one at most
abbrev pub FindsValue :
    {X : Type 0} → FieldType → (X → FieldValue) → List ℕ → Result X ReadError → Type 0
FindsValue type seen rest result =
    (value : FieldValue) (spelled more : List ℕ)
    → Spells type value spelled → rest ≡ spelled ++ more
    → IsOkAnd result (λ x. seen x ≡ value)

-- the reader moved over a byte whose lowest bit is the value
abbrev pub MovesOverTruth : Bool → Cursor → Cursor → Type 0
MovesOverTruth value old new =
    (spelled : List ℕ) × SpellsTruth (Truth value) spelled × MovesOver spelled old new

-- bytes that begin with spellings of two values of a type begin with one spelling of one value
abbrev pub NoSpellingBeginsAnother : Type 0
NoSpellingBeginsAnother =
    (type : FieldType) (v w : FieldValue) (p q x y : List ℕ)
    → Spells type v p → Spells type w q → p ++ x ≡ q ++ y
    → (v ≡ w) × (p ≡ q) × (x ≡ y)

-- where a spelling begins the bytes there is no defect
abbrev pub SpellingHasNoDefect : Type 0
SpellingHasNoDefect =
    (type : FieldType) (value : FieldValue) (spelled more : List ℕ)
    → Spells type value spelled → defect type (spelled ++ more) ≡ None

-- what is written is a spelling of the value
abbrev pub WrittenIsSpelling : Type 0
WrittenIsSpelling =
    (type : FieldType) (value : FieldValue)
    → Admits type value → Spells type value (spelling type value)
