-- The types of a message's fields, and what a spelling of a value is (Stratum V2, "Data Types
-- Mapping").
use Rattle.std.specs.Prelude.{◌≡◌, ◌==◌, ℕ, ◌<◌, ◌≤◌, ◌^◌, ◌%◌, Bool, Option, None, Some, List, [], ◌∷◌, length, ⊤}
use Rattle.std.specs.List.{AllByRecursion}
use Rattle.std.specs.Str.{IsUtf8}
use Rattle.sv2_types.specs.Spelling.{spelled_u8, spelled_u16, spelled_u24, spelled_u32, spelled_u64, spelled_boolean, spelled_str255, spelled_b255, spelled_b64k, spelled_b16m, spelled_option_u32, spelled_seq_u256, spelled_seq64k_u256, spelled_seq_u16, spelled_seq_bytes}

-- the types that the messages are made of, by the standard's names (UINT256 is U256, which is the
-- name of a type of the code)
pub data FieldType : Type 0 where
  U8 : FieldType
  U16 : FieldType
  U24 : FieldType
  U32 : FieldType
  U64 : FieldType
  UINT256 : FieldType
  BOOL : FieldType
  F32 : FieldType
  STR0_255 : FieldType
  B0_255 : FieldType
  B0_32 : FieldType
  B0_64K : FieldType
  B0_16M : FieldType
  OPTION_U32 : FieldType
  SEQ0_255_U256 : FieldType
  SEQ0_64K_U256 : FieldType
  SEQ0_64K_U16 : FieldType
  SEQ0_64K_B0_16M : FieldType

-- what a field's value is to contracts: a number, a truth, bytes or a text, a number or none,
-- numbers, or several byte strings
pub data FieldValue : Type 0 where
  Number : ℕ → FieldValue
  Truth : Bool → FieldValue
  Bytes : List ℕ → FieldValue
  Perhaps : Option ℕ → FieldValue
  Numbers : List ℕ → FieldValue
  Parts : List (List ℕ) → FieldValue

-- the number fits 32 bits, where there is one
abbrev pub FitsPerhaps : Option ℕ → Type 0
FitsPerhaps None = ⊤
FitsPerhaps (Some n) = n < 2 ^ 32

-- the type has this value
abbrev pub Admits : FieldType → FieldValue → Type 0
Admits U8 (Number n) = n < 2 ^ 8
Admits U16 (Number n) = n < 2 ^ 16
Admits U24 (Number n) = n < 2 ^ 24
Admits U32 (Number n) = n < 2 ^ 32
Admits U64 (Number n) = n < 2 ^ 64
Admits UINT256 (Bytes content) = length content ≡ 32
Admits BOOL (Truth b) = ⊤
Admits F32 (Bytes content) = length content ≡ 4
Admits STR0_255 (Bytes content) = (length content < 2 ^ 8) × IsUtf8 content
Admits B0_255 (Bytes content) = length content < 2 ^ 8
Admits B0_32 (Bytes content) = length content ≤ 32
Admits B0_64K (Bytes content) = length content < 2 ^ 16
Admits B0_16M (Bytes content) = length content < 2 ^ 24
Admits OPTION_U32 (Perhaps value) = FitsPerhaps value
Admits SEQ0_255_U256 (Parts items) =
    (length items < 2 ^ 8) × AllByRecursion (λ item. length item ≡ 32) items
Admits SEQ0_64K_U256 (Parts items) =
    (length items < 2 ^ 16) × AllByRecursion (λ item. length item ≡ 32) items
Admits SEQ0_64K_U16 (Numbers numbers) =
    (length numbers < 2 ^ 16) × AllByRecursion (λ n. n < 2 ^ 16) numbers
Admits SEQ0_64K_B0_16M (Parts parts) =
    (length parts < 2 ^ 16) × AllByRecursion (λ part. length part < 2 ^ 24) parts
Admits _ _ = ⊥

-- the spelling that is written
abbrev pub spelling : FieldType → FieldValue → List ℕ
spelling U8 (Number n) = spelled_u8 n
spelling U16 (Number n) = spelled_u16 n
spelling U24 (Number n) = spelled_u24 n
spelling U32 (Number n) = spelled_u32 n
spelling U64 (Number n) = spelled_u64 n
spelling UINT256 (Bytes content) = content
spelling BOOL (Truth b) = spelled_boolean b
spelling F32 (Bytes content) = content
spelling STR0_255 (Bytes content) = spelled_str255 content
spelling B0_255 (Bytes content) = spelled_b255 content
spelling B0_32 (Bytes content) = spelled_b255 content
spelling B0_64K (Bytes content) = spelled_b64k content
spelling B0_16M (Bytes content) = spelled_b16m content
spelling OPTION_U32 (Perhaps value) = spelled_option_u32 value
spelling SEQ0_255_U256 (Parts items) = spelled_seq_u256 items
spelling SEQ0_64K_U256 (Parts items) = spelled_seq64k_u256 items
spelling SEQ0_64K_U16 (Numbers numbers) = spelled_seq_u16 numbers
spelling SEQ0_64K_B0_16M (Parts parts) = spelled_seq_bytes parts
spelling _ _ = []

-- a BOOL is any byte: its lowest bit is the value, the other seven are free
pub record SpellsTruth (value : FieldValue) (spelled : List ℕ) : Type 0 where
  pub byte : ℕ
  pub is_byte : byte < 2 ^ 8
  pub alone : spelled ≡ byte ∷ []
  pub lowest_bit : value ≡ Truth (byte % 2 == 1)

-- every other value has one form
abbrev pub HasForm : FieldType → FieldValue → List ℕ → Type 0
HasForm BOOL value spelled = SpellsTruth value spelled
HasForm type value spelled = spelled ≡ spelling type value

-- the bytes are a spelling of a value of the type
pub record Spells (type : FieldType) (value : FieldValue) (spelled : List ℕ) : Type 0 where
  pub admits : Admits type value
  pub form : HasForm type value spelled
