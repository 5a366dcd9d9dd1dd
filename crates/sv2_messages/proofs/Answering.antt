-- The clauses of a function that reads messages, from the one that says what it gives.
use Rattle.std.proofs.Common.{◌≡◌, ℕ, ◌+◌, ◌<◌, ◌^◌, true, false, if◌then◌else◌, Option, None, Some, Result, Ok, Err, List, [], ◌∷◌, length, refl, sym, ap, subst, ◌∙◌, arith}
use Rattle.std.specs.Prelude.{IfOk, IsOkAnd, IsErrOf, ◌↔◌, ◌&&◌, nat_lt}
use Rattle.sv2_types.specs.Fields.{FieldType, FieldValue}
use Rattle.sv2_types.proofs.Laws.{written_spells}
use Rattle.sv2_types.proofs.Items.{IsBytes}
use Rattle.sv2_messages.specs.declared.error.MsgError.{MsgError}
use Rattle.sv2_messages.specs.declared.error.MsgError.TheVariants.{UnknownKind, BadField, Trailing}
use Rattle.sv2_messages.specs.Messages.{Message, Row, types_of, AreSpelled, MsgOf, AreAdmitted, spellings, FitsFrame, ext_of, IsReadBack}
use Rattle.sv2_messages.specs.Reading.{IsDefect, IsDefectBy, IsFirstDefect, values_by, values_of, GivesMessage}
use Rattle.sv2_messages.proofs.Defects.{fields_at-spelled, spelled-fields_at, DefectFrom, defect-fields_at, bad_refused, trailing_refused}

-- what is given is the payload's message
by_row : (table : List Row) (kind : ℕ) (payload : List ℕ) (message : Message) (found : Option (List FieldType)) → IsBytes payload
    → types_of table kind ≡ found → message.kind ≡ kind → values_by found kind payload ≡ Ok message.fields → MsgOf table kind payload message
by_row table kind payload message None fits row same is = absurd cc
by_row table kind payload message (Some types) fits row same is =
    record { same_kind = same; types = types; row = row; spelled = spelled-fields_at types message.fields payload 0 fits is }

pub found : {X : Type 0} (seen : X → Message) (result : Result X MsgError) (table : List Row) (kind : ℕ) (payload : List ℕ) → IsBytes payload
    → GivesMessage seen result kind (values_of table kind payload) → IfOk result (λ x. MsgOf table kind payload (seen x))
unfolding values_of
found seen (Ok x) table kind payload fits gives = by_row table kind payload (seen x) (types_of table kind) fits refl gives.0 gives.1
found seen (Err e) table kind payload fits gives = tt

-- the payload's message is given
same_message : (a b : Message) → a.kind ≡ b.kind → a.fields ≡ b.fields → a ≡ b
same_message a b kinds fields =
    ap (λ (k : ℕ). record { kind = k; fields = a.fields }) kinds ∙ ap (λ (fs : List FieldValue). record { kind = b.kind; fields = fs }) fields

values_of-message : (table : List Row) (kind : ℕ) (payload : List ℕ) (message : Message) → MsgOf table kind payload message → values_of table kind payload ≡ Ok message.fields
unfolding values_of
values_of-message table kind payload message of = rw of.row (fields_at-spelled of.types message.fields payload 0 of.spelled)

pub only : {X : Type 0} (seen : X → Message) (result : Result X MsgError) (table : List Row) (kind : ℕ) (payload : List ℕ)
    → GivesMessage seen result kind (values_of table kind payload) → (message : Message) → MsgOf table kind payload message → IsOkAnd result (λ x. seen x ≡ message)
only seen (Ok x) table kind payload gives message of =
    let read = values_of-message table kind payload message of in
    let fields : (seen x).fields ≡ message.fields = (let both : Ok (seen x).fields ≡ Ok message.fields = sym gives.1 ∙ read in cc) in
    same_message (seen x) message (gives.0 ∙ sym of.same_kind) fields
only seen (Err e) table kind payload gives message of =
    let read = values_of-message table kind payload message of in
    absurd cc

-- the first defect is refused, and nothing else is
from_start : (types : List FieldType) (payload : List ℕ) (e : MsgError) → DefectFrom types payload 0 e → IsDefect types payload e
from_start types payload (UnknownKind kind) from = from
from_start types payload (BadField place reason) from =
    let same : from.0 ≡ place = omega (arith, from.1) in
    subst (λ (n : ℕ). IsDefect types payload (BadField n reason)) same from.2
from_start types payload (Trailing count) from = from

defect_by : (found : Option (List FieldType)) (kind : ℕ) (payload : List ℕ) (e : MsgError) → IsBytes payload → values_by found kind payload ≡ Err e → IsDefectBy found kind payload e
defect_by None kind payload e fits is = cc
defect_by (Some types) kind payload e fits is = from_start types payload e (defect-fields_at types payload 0 e fits is)

values_by-defect : (found : Option (List FieldType)) (kind : ℕ) (payload : List ℕ) (e : MsgError) → IsDefectBy found kind payload e → values_by found kind payload ≡ Err e
values_by-defect None kind payload e defect = sym (ap (λ (d : MsgError). Err d) defect)
values_by-defect (Some types) kind payload (UnknownKind other) defect = absurd defect
values_by-defect (Some types) kind payload (BadField place reason) defect =
    let read = bad_refused defect.before defect.type defect.after defect.values defect.read defect.rest 0 reason defect.spelled defect.refused in
    let at : 0 + length defect.before ≡ place = omega (arith, defect.counted) in
    rw (defect.row, defect.whole) (read ∙ ap (λ (n : ℕ). Err (BadField n reason)) at)
values_by-defect (Some types) kind payload (Trailing count) defect =
    rw defect.whole (trailing_refused types defect.values defect.read defect.rest 0 defect.spelled defect.some ∙ ap (λ (n : ℕ). Err (Trailing n)) (sym defect.counted))

defect_of : (table : List Row) (kind : ℕ) (payload : List ℕ) (e : MsgError) → IsBytes payload → values_of table kind payload ≡ Err e → IsFirstDefect table kind payload e
unfolding values_of
defect_of table kind payload e fits is = defect_by (types_of table kind) kind payload e fits is

values_of-defect : (table : List Row) (kind : ℕ) (payload : List ℕ) (e : MsgError) → IsFirstDefect table kind payload e → values_of table kind payload ≡ Err e
unfolding values_of
values_of-defect table kind payload e defect = values_by-defect (types_of table kind) kind payload e defect

is_defect : {X : Type 0} (seen : X → Message) (result : Result X MsgError) (table : List Row) (kind : ℕ) (payload : List ℕ) (e : MsgError) → IsBytes payload
    → GivesMessage seen result kind (values_of table kind payload) → IsErrOf result e → IsFirstDefect table kind payload e
is_defect seen (Ok x) table kind payload e fits gives is = absurd cc
is_defect seen (Err d) table kind payload e fits gives is =
    let same : d ≡ e = cc in
    defect_of table kind payload e fits (gives ∙ ap (λ (x : MsgError). Err x) same)

is_refused : {X : Type 0} (seen : X → Message) (result : Result X MsgError) (table : List Row) (kind : ℕ) (payload : List ℕ) (e : MsgError)
    → GivesMessage seen result kind (values_of table kind payload) → IsFirstDefect table kind payload e → IsErrOf result e
is_refused seen (Ok x) table kind payload e gives defect =
    let read = values_of-defect table kind payload e defect in absurd (let both : Ok (seen x).fields ≡ Err e = sym gives.1 ∙ read in cc)
is_refused seen (Err d) table kind payload e gives defect =
    let read = values_of-defect table kind payload e defect in
    let both : Err d ≡ Err e = sym gives ∙ read in
    let same : d ≡ e = cc in
    ap (λ (x : MsgError). Err x) same

pub refused : {X : Type 0} (seen : X → Message) (result : Result X MsgError) (table : List Row) (kind : ℕ) (payload : List ℕ) → IsBytes payload
    → GivesMessage seen result kind (values_of table kind payload) → (e : MsgError) → IsErrOf result e ↔ IsFirstDefect table kind payload e
refused seen result table kind payload fits gives e =
    (λ is. is_defect seen result table kind payload e fits gives is, λ defect. is_refused seen result table kind payload e gives defect)

-- what is written is read back
written_is_spelled : (types : List FieldType) (values : List FieldValue) → AreAdmitted types values → AreSpelled types values (spellings types values)
written_is_spelled [] [] admitted = refl
written_is_spelled [] (value ∷ values) admitted = absurd admitted
written_is_spelled (type ∷ types) [] admitted = absurd admitted
written_is_spelled (type ∷ types) (value ∷ values) admitted =
    (_, spellings types values, written_spells type value admitted.0, refl, written_is_spelled types values admitted.1)

ext_fits : (kind : ℕ) → ext_of kind < 2 ^ 16
ext_fits kind =
    elim (nat_lt 0x14 kind && nat_lt kind 0x22) as (λ b. (if b then 0x8000 else 0) < 2 ^ 16) [ true ↦ omega arith | false ↦ omega arith ]

pub read_back : (table : List Row) (message : Message) → message.kind < 2 ^ 8 → FitsFrame table message → IsReadBack table message
read_back table message kind_fits fits = record {
  frame = record { ext_fits = ext_fits message.kind; kind_fits = kind_fits; length_fits = rw fits.row fits.fields.within };
  payload = record {
    same_kind = refl;
    types = fits.types;
    row = fits.row;
    spelled = rw fits.row (written_is_spelled fits.types message.fields fits.fields.admitted);
  };
}
