-- How the values of a message's fields are spelled (Stratum V2, "Data Types Mapping").
use Rattle.std.specs.Prelude.{ℕ, Bool, true, false, Option, None, Some, List, [], ◌∷◌, ◌++◌, length, take}
use Rattle.std.specs.Int.{w16, w32, w64, to_le_bytes}
use Rattle.std.specs.List.{flat_map}

-- a U8
abbrev pub spelled_u8 : ℕ → List ℕ
spelled_u8 n = n ∷ []

-- a U16, low byte first
abbrev pub spelled_u16 : ℕ → List ℕ
spelled_u16 n = to_le_bytes w16 n

-- a U24, low byte first
abbrev pub spelled_u24 : ℕ → List ℕ
spelled_u24 n = take 3 (to_le_bytes w32 n)

-- a U32, low byte first
abbrev pub spelled_u32 : ℕ → List ℕ
spelled_u32 n = to_le_bytes w32 n

-- a U64, low byte first
abbrev pub spelled_u64 : ℕ → List ℕ
spelled_u64 n = to_le_bytes w64 n

-- a BOOL as it is written
abbrev pub spelled_boolean : Bool → List ℕ
spelled_boolean false = 0 ∷ []
spelled_boolean true = 1 ∷ []

-- a STR0_255: one byte of length, then UTF-8
abbrev pub spelled_str255 : List ℕ → List ℕ
spelled_str255 text = spelled_u8 (length text) ++ text

-- a B0_255 or a B0_32: one byte of length, then the bytes
abbrev pub spelled_b255 : List ℕ → List ℕ
spelled_b255 content = spelled_u8 (length content) ++ content

-- a B0_64K: two bytes of length, then the bytes
abbrev pub spelled_b64k : List ℕ → List ℕ
spelled_b64k content = spelled_u16 (length content) ++ content

-- a B0_16M: three bytes of length, then the bytes
abbrev pub spelled_b16m : List ℕ → List ℕ
spelled_b16m content = spelled_u24 (length content) ++ content

-- an OPTION[U32]: a count of 0 or 1, then the number where there is one
abbrev pub spelled_option_u32 : Option ℕ → List ℕ
spelled_option_u32 None = 0 ∷ []
spelled_option_u32 (Some n) = 1 ∷ spelled_u32 n

-- a SEQ0_255[U256]: one byte of count, then the items
abbrev pub spelled_seq_u256 : List (List ℕ) → List ℕ
spelled_seq_u256 items = spelled_u8 (length items) ++ flat_map (λ item. item) items

-- a SEQ0_64K[U256]: two bytes of count, then the items
abbrev pub spelled_seq64k_u256 : List (List ℕ) → List ℕ
spelled_seq64k_u256 items = spelled_u16 (length items) ++ flat_map (λ item. item) items

-- a SEQ0_64K[U16]: two bytes of count, then the numbers
abbrev pub spelled_seq_u16 : List ℕ → List ℕ
spelled_seq_u16 numbers = spelled_u16 (length numbers) ++ flat_map spelled_u16 numbers

-- a SEQ0_64K[B0_16M]: two bytes of count, then the parts
abbrev pub spelled_seq_bytes : List (List ℕ) → List ℕ
spelled_seq_bytes parts = spelled_u16 (length parts) ++ flat_map spelled_b16m parts
