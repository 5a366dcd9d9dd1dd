-- Reading a message from left to right, and the first defect that is met (this project's own).
use Rattle.std.specs.Prelude.{◌≡◌, ◌≢◌, ℕ, ◌+◌, Option, None, Some, Result, Ok, Err, List, [], ◌∷◌, ◌++◌, length, drop}
use Rattle.pool_base.specs.Results.{◌>>=◌}
use Rattle.sv2_types.specs.declared.error.ReadError.{ReadError}
use Rattle.sv2_types.specs.Fields.{FieldType, FieldValue}
use Rattle.sv2_types.specs.Reading.{size, value_at, defect}
use Rattle.sv2_messages.specs.declared.error.MsgError.{MsgError}
use Rattle.sv2_messages.specs.declared.error.MsgError.TheVariants.{UnknownKind, BadField, Trailing}
use Rattle.sv2_messages.specs.Messages.{Message, Row, types_of, AreSpelled}

-- the first field that can't be read is this one, for this reason
pub record IsBadField (types : List FieldType) (payload : List ℕ) (place : ℕ)
    (reason : ReadError) : Type 0 where
  pub before : List FieldType
  pub type : FieldType
  pub after : List FieldType
  pub row : types ≡ before ++ type ∷ after
  pub counted : place ≡ length before
  pub values : List FieldValue
  pub read : List ℕ
  pub rest : List ℕ
  pub spelled : AreSpelled before values read
  pub whole : payload ≡ read ++ rest
  pub refused : defect type rest ≡ Some reason

-- all fields can be read, and so many bytes follow
pub record IsTrailing (types : List FieldType) (payload : List ℕ) (count : ℕ) : Type 0 where
  pub values : List FieldValue
  pub read : List ℕ
  pub rest : List ℕ
  pub spelled : AreSpelled types values read
  pub whole : payload ≡ read ++ rest
  pub some : rest ≢ []
  pub counted : count ≡ length rest

-- what is wrong with a payload of fields of these types
abbrev pub IsDefect : List FieldType → List ℕ → MsgError → Type 0
IsDefect types payload (UnknownKind kind) = ⊥
IsDefect types payload (BadField place reason) = IsBadField types payload place reason
IsDefect types payload (Trailing count) = IsTrailing types payload count

-- the same by what the table has of the kind
abbrev pub IsDefectBy : Option (List FieldType) → ℕ → List ℕ → MsgError → Type 0
IsDefectBy None kind payload error = error ≡ UnknownKind kind
IsDefectBy (Some types) kind payload error = IsDefect types payload error

-- the first defect of a kind and a payload: the kind isn't in the table, a field can't be read, or
-- bytes follow the last
abbrev pub IsFirstDefect : List Row → ℕ → List ℕ → MsgError → Type 0
IsFirstDefect table kind payload error = IsDefectBy (types_of table kind) kind payload error

-- What follows is reading from left to right, field by field, as the functions of each message do;
-- that it is `MsgOf` and `IsFirstDefect` is proved.

-- what is left to read: the place of the next field, and the bytes from it on
pub record Left : Type 0 where
  pub place : ℕ
  pub rest : List ℕ

-- a field at the front of what is left: its value and what is left behind it
abbrev pub field_by : Option ReadError → FieldType → Left → Result (FieldValue × Left) MsgError
field_by None type left =
    Ok (
      value_at type left.rest,
      record { place = left.place + 1; rest = drop (size type left.rest) left.rest },
    )
field_by (Some reason) type left = Err (BadField left.place reason)

-- a field of this type: its first defect, or its value and what is left behind it
unfoldable pub field_at : FieldType → Left → Result (FieldValue × Left) MsgError
field_at type left = field_by (defect type left.rest) type left

-- the end of what is left
abbrev pub end_by : List ℕ → Result (List FieldValue) MsgError
end_by [] = Ok []
end_by (byte ∷ bytes) = Err (Trailing (length (byte ∷ bytes)))

-- nothing is left, or so many bytes are
unfoldable pub end_at : Left → Result (List FieldValue) MsgError
end_at left = end_by left.rest

-- fields of these types, and nothing else
abbrev pub fields_at : List FieldType → Left → Result (List FieldValue) MsgError
fields_at [] left = end_at left
fields_at (type ∷ types) left = do
  first ← field_at type left
  more ← fields_at types first.1
  Ok (first.0 ∷ more)

-- the values of a payload, by the types of its kind
abbrev pub values_by : Option (List FieldType) → ℕ → List ℕ → Result (List FieldValue) MsgError
values_by None kind payload = Err (UnknownKind kind)
values_by (Some types) kind payload = fields_at types (record { place = 0; rest = payload })

-- the values of a payload, or its first defect
unfoldable pub values_of : List Row → ℕ → List ℕ → Result (List FieldValue) MsgError
values_of table kind payload = values_by (types_of table kind) kind payload

-- a field was read: what a reader returned is the field at the front of what was left
abbrev pub ReadsField :
    {X : Type 0} → FieldType → (X → FieldValue) → Left → Result X MsgError → Left → Type 0
ReadsField type seen old (Ok x) new = field_at type old ≡ Ok (seen x, new)
ReadsField type seen old (Err e) new = field_at type old ≡ Err e

-- the end was met, or it wasn't
abbrev pub MeetsEnd : Left → Result Unit MsgError → Type 0
MeetsEnd left (Ok x) = end_at left ≡ Ok []
MeetsEnd left (Err e) = end_at left ≡ Err e

-- what a function returned is a message of this kind with these values, or the defect that was met
abbrev pub GivesMessage :
    {X : Type 0} → (X → Message) → Result X MsgError → ℕ → Result (List FieldValue) MsgError
    → Type 0
GivesMessage seen (Ok x) kind values = ((seen x).kind ≡ kind) × (values ≡ Ok (seen x).fields)
GivesMessage seen (Err e) kind values = values ≡ Err e
