-- The fields of a message as they are written (this project's own).
use Rattle.std.specs.Prelude.{◌≡◌, ℕ, Some, List, map}
use Rattle.sv2_types.specs.Fields.{FieldType, FieldValue, U8, U16, U32, U64, UINT256, BOOL, F32, STR0_255, B0_255, B0_32, B0_64K, OPTION_U32, SEQ0_255_U256, SEQ0_64K_U256, SEQ0_64K_U16, SEQ0_64K_B0_16M, Number, Truth, Bytes, Perhaps, Numbers, Parts}
use Rattle.sv2_types.specs.Reading.{numbers_of, parts_at}
use Rattle.sv2_messages.specs.declared.field.Field.{Field}
use Rattle.sv2_messages.specs.declared.field.Field.TheVariants as fields
use Rattle.sv2_messages.specs.Messages.{Message, Row, types_of, HaveSpelling, spellings}

-- the type of a field
abbrev pub field_type : Field → FieldType
field_type (fields.U8 v) = U8
field_type (fields.U16 v) = U16
field_type (fields.U32 v) = U32
field_type (fields.U64 v) = U64
field_type (fields.U256 v) = UINT256
field_type (fields.Boolean v) = BOOL
field_type (fields.F32 v) = F32
field_type (fields.Str255 v) = STR0_255
field_type (fields.B255 v) = B0_255
field_type (fields.B32 v) = B0_32
field_type (fields.B64k v) = B0_64K
field_type (fields.OptionU32 v) = OPTION_U32
field_type (fields.SeqU256 v) = SEQ0_255_U256
field_type (fields.Seq64kU256 v) = SEQ0_64K_U256
field_type (fields.SeqU16 v) = SEQ0_64K_U16
field_type (fields.SeqBytes v) = SEQ0_64K_B0_16M

-- and its value
abbrev pub field_value : Field → FieldValue
field_value (fields.U8 v) = Number v
field_value (fields.U16 v) = Number v
field_value (fields.U32 v) = Number v
field_value (fields.U64 v) = Number v
field_value (fields.U256 v) = Bytes v
field_value (fields.Boolean v) = Truth v
field_value (fields.F32 v) = Bytes v
field_value (fields.Str255 v) = Bytes v.now
field_value (fields.B255 v) = Bytes v.now
field_value (fields.B32 v) = Bytes v.now
field_value (fields.B64k v) = Bytes v.now
field_value (fields.OptionU32 v) = Perhaps v
field_value (fields.SeqU256 v) = Parts v.items.now
field_value (fields.Seq64kU256 v) = Parts v.items.now
field_value (fields.SeqU16 v) = Numbers (numbers_of v.spelled.now)
field_value (fields.SeqBytes v) = Parts (parts_at v.count v.spelled.now)

-- the types of all fields
abbrev pub types_in : List Field → List FieldType
types_in list = map field_type list

-- the values of all fields
abbrev pub values_in : List Field → List FieldValue
values_in list = map field_value list

-- the fields have spellings that a payload has room for
abbrev pub FitPayload : List Field → Type 0
FitPayload list = HaveSpelling (types_in list) (values_in list)

-- their spellings, one after the other
abbrev pub spellings_of : List Field → List ℕ
spellings_of list = spellings (types_in list) (values_in list)

-- they are the fields of the message, by the table
pub record AreFields (table : List Row) (message : Message) (list : List Field) : Type 0 where
  pub types : types_of table message.kind ≡ Some (types_in list)
  pub values : values_in list ≡ message.fields
