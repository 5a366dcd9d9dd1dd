-- Fields that are read are spelled so, and fields that are spelled so are read.
use Rattle.std.proofs.Common.{◌≡◌, ℕ, Bool, true, false, Some, Ok, List, [], ◌∷◌, ◌++◌, refl, ap₂, ◌∙◌}
use Rattle.std.proofs.lemmas.Bool.{and_parts}
use Rattle.std.specs.List.{list_all}
use Rattle.sv2_types.specs.Fields.{FieldType, FieldValue, BOOL, HasForm, spelling}
use Rattle.sv2_types.proofs.Items.{IsBytes}
use Rattle.sv2_types.proofs.Laws.{written_spells}
use Rattle.sv2_messages.specs.Messages.{AreSpelled, Row, types_of}
use Rattle.sv2_messages.specs.Reading.{values_of}
use Rattle.sv2_messages.proofs.Defects.{fields_at-spelled, spelled-fields_at}
use Rattle.ledger_records.proofs.FieldByField.{AreOf, written}

-- every type but BOOL has one spelling for a value
abbrev pub has_one_form : FieldType → Bool
has_one_form BOOL = false
has_one_form type = true

one_form : (type : FieldType) (value : FieldValue) (spelled : List ℕ) → has_one_form type ≡ true → HasForm type value spelled → spelled ≡ spelling type value
one_form BOOL value spelled one form = absurd cc
one_form type value spelled one form = form

-- fields that are spelled are written, and are of their types
pub record IsWritten (types : List FieldType) (values : List FieldValue) (bytes : List ℕ) : Type 0 where
  pub is : bytes ≡ written types values []
  pub are_of : AreOf types values

are_written : (types : List FieldType) (values : List FieldValue) (bytes : List ℕ) → list_all has_one_form types ≡ true → AreSpelled types values bytes
    → IsWritten types values bytes
are_written [] [] bytes one spelled = record { is = spelled; are_of = tt }
are_written [] (value ∷ values) bytes one spelled = absurd spelled
are_written (type ∷ types) [] bytes one spelled = absurd spelled
are_written (type ∷ types) (value ∷ values) bytes one spelled =
    let forms = and_parts (has_one_form type) (list_all has_one_form types) one in
    let more : IsWritten types values spelled.1 = are_written types values spelled.1 forms.1 spelled.4 in record {
      is = spelled.3 ∙ ap₂ (λ (x : List ℕ) (y : List ℕ). x ++ y) (one_form type value spelled.0 forms.0 spelled.2.form) more.is;
      are_of = (spelled.2.admits, more.are_of);
    }

-- fields that are written are spelled
are_spelled : (types : List FieldType) (values : List FieldValue) → AreOf types values → AreSpelled types values (written types values [])
are_spelled [] [] are = refl
are_spelled [] (value ∷ values) are = absurd are
are_spelled (type ∷ types) [] are = absurd are
are_spelled (type ∷ types) (value ∷ values) are =
    (spelling type value, written types values [], written_spells type value are.0, refl, are_spelled types values are.1)

-- so bytes are read as the values that they are written of
pub read-written : (table : List Row) (types : List FieldType) (kind : ℕ) (values : List FieldValue) (bytes : List ℕ) → types_of table kind ≡ Some types
    → AreOf types values → bytes ≡ written types values [] → values_of table kind bytes ≡ Ok values
unfolding values_of
read-written table types kind values bytes row are is =
    rw (row, is) (fields_at-spelled types values (written types values []) 0 (are_spelled types values are))

-- and are written of the values that they are read as
pub written-read : (table : List Row) (types : List FieldType) (kind : ℕ) (values : List FieldValue) (bytes : List ℕ) → types_of table kind ≡ Some types
    → list_all has_one_form types ≡ true → IsBytes bytes → values_of table kind bytes ≡ Ok values → IsWritten types values bytes
unfolding values_of
written-read table types kind values bytes row one fits is =
    are_written types values bytes one (spelled-fields_at types values bytes 0 fits (rw row at is))
