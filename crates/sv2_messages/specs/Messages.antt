-- Messages as contracts see them, and what a payload of one is (Stratum V2, "Message Types").
use Prim.Native.String.{String}
use Rattle.std.specs.Prelude.{◌≡◌, ◌==◌, ℕ, ◌<◌, ◌^◌, ◌&&◌, if◌then◌else◌, nat_lt, Option, None, Some, List, [], ◌∷◌, ◌++◌, length, map, codes}
use Rattle.sv2_types.specs.Fields.{FieldType, FieldValue, Admits, spelling, Spells}
use Rattle.sv2_frames.specs.Framing.{frame_of, FrameFits}
use Rattle.sv2_messages.specs.declared.kinds.TheConstants as kinds

-- a message: its kind, and the values of its fields in their order
pub record Message : Type 0 where
  pub kind : ℕ
  pub fields : List FieldValue

-- a field of a kind: its name, and the type of its values
pub record NamedField : Type 0 where
  pub name : List ℕ
  pub type : FieldType

-- a field by its name's text
abbrev pub field : String → FieldType → NamedField
field name type = record { name = codes name; type = type }

-- a kind, its message's name, and its fields in their order
pub record Row : Type 0 where
  pub kind : ℕ
  pub name : List ℕ
  pub fields : List NamedField

-- the types of a row's fields
abbrev pub row_types : Row → List FieldType
row_types row = map (λ field. field.type) row.fields

-- the types of a kind's fields, where the table has the kind
abbrev pub types_of : List Row → ℕ → Option (List FieldType)
types_of [] kind = None
types_of (row ∷ rows) kind = if row.kind == kind then Some (row_types row) else types_of rows kind

-- the name of a kind's message, where the table has the kind
abbrev pub message_name : List Row → ℕ → Option (List ℕ)
message_name [] kind = None
message_name (row ∷ rows) kind = if row.kind == kind then Some row.name else message_name rows kind

-- the bytes are spellings of values of these types, in this order, and nothing else
abbrev pub AreSpelled : List FieldType → List FieldValue → List ℕ → Type 0
AreSpelled [] [] bytes = bytes ≡ []
AreSpelled (type ∷ types) (value ∷ values) bytes =
    (first : List ℕ) × (more : List ℕ) × Spells type value first × (bytes ≡ first ++ more)
    × AreSpelled types values more
AreSpelled _ _ bytes = ⊥

-- the payload is spellings of the fields of this message, in their order, and nothing else
pub record MsgOf (table : List Row) (kind : ℕ) (payload : List ℕ) (message : Message) : Type 0 where
  pub same_kind : message.kind ≡ kind
  pub types : List FieldType
  pub row : types_of table kind ≡ Some types
  pub spelled : AreSpelled types message.fields payload

-- each value is one of its type
abbrev pub AreAdmitted : List FieldType → List FieldValue → Type 0
AreAdmitted [] [] = Unit {0}
AreAdmitted (type ∷ types) (value ∷ values) = Admits type value × AreAdmitted types values
AreAdmitted _ _ = ⊥

-- the fields as they are written
abbrev pub spellings : List FieldType → List FieldValue → List ℕ
spellings (type ∷ types) (value ∷ values) = spelling type value ++ spellings types values
spellings _ _ = []

-- the values have spellings of these types, which a payload has room for
pub record HaveSpelling (types : List FieldType) (values : List FieldValue) : Type 0 where
  pub admitted : AreAdmitted types values
  pub within : length (spellings types values) < 2 ^ 24

-- the message can be written: its kind is in the table, and its fields have spellings that a
-- payload has room for
pub record FitsFrame (table : List Row) (message : Message) : Type 0 where
  pub types : List FieldType
  pub row : types_of table message.kind ≡ Some types
  pub fields : HaveSpelling types message.fields

-- the extension type of a message's frame: the channel bit for the kinds from 15 to 21 in hex
-- digits, as the standard's table of messages has it (Stratum V2, "Framing")
abbrev pub ext_of : ℕ → ℕ
ext_of kind =
    if nat_lt kinds.OPEN_EXTENDED_MINING_CHANNEL_SUCCESS kind
    && nat_lt kind kinds.SET_CUSTOM_MINING_JOB
    then 0x8000 else 0

-- the frame of fields
abbrev pub frame_with : ℕ → List FieldType → List FieldValue → List ℕ
frame_with kind types values = frame_of (ext_of kind) kind (spellings types values)

-- the payload of a message of these types
abbrev pub payload_by : Option (List FieldType) → Message → List ℕ
payload_by None message = []
payload_by (Some types) message = spellings types message.fields

-- the payload that is written
abbrev pub message_payload : List Row → Message → List ℕ
message_payload table message = payload_by (types_of table message.kind) message

-- the frame that is written
abbrev pub message_frame : List Row → Message → List ℕ
message_frame table message =
    frame_of (ext_of message.kind) message.kind (message_payload table message)

-- a message that fits is written as a frame of a payload that is read as the same message
pub record IsReadBack (table : List Row) (message : Message) : Type 0 where
  pub frame : FrameFits (ext_of message.kind) message.kind (message_payload table message)
  pub payload : MsgOf table message.kind (message_payload table message) message

-- so is each message of any table that fits
abbrev pub WrittenIsReadBack : Type 0
WrittenIsReadBack =
    (table : List Row) (message : Message)
    → message.kind < 2 ^ 8 → FitsFrame table message → IsReadBack table message
