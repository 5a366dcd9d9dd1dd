-- What is read is the message that the payload spells, and what is refused is its first defect.
use Rattle.std.proofs.Common.{◌≡◌, ◌≢◌, ℕ, ◌+◌, Option, None, Some, Result, Ok, Err, List, [], ◌∷◌, ◌++◌, length, take, drop, refl, sym, ap, subst, ◌∙◌, append_assoc, arith}
use Rattle.std.proofs.lemmas.List.{take-append-drop}
use Rattle.sv2_types.specs.declared.error.ReadError.{ReadError}
use Rattle.sv2_types.specs.Fields.{FieldType, FieldValue, Spells}
use Rattle.sv2_types.specs.Reading.{size, value_at, defect}
use Rattle.sv2_types.proofs.Items.{IsBytes}
use Rattle.sv2_messages.specs.declared.error.MsgError.{MsgError}
use Rattle.sv2_messages.specs.declared.error.MsgError.TheVariants.{UnknownKind, BadField, Trailing}
use Rattle.sv2_messages.specs.Messages.{AreSpelled}
use Rattle.sv2_messages.specs.Reading.{IsBadField, IsTrailing, Left, field_by, field_at, end_by, end_at, fields_at}
use Rattle.pool_base.specs.Results.{◌>>=◌}
use Rattle.sv2_messages.proofs.Numbers.{IsBytes-drop}
use Rattle.sv2_messages.proofs.Readable.{lies}
use Rattle.sv2_messages.proofs.Steps.{field_at-spelled, field_refused}

-- the end of a payload
end_at-spelled : (place : ℕ) → end_at (record { place = place; rest = [] }) ≡ Ok []
unfolding end_at
end_at-spelled place = refl

-- spellings are read as their values
pub fields_at-spelled : (types : List FieldType) (values : List FieldValue) (payload : List ℕ) (place : ℕ) → AreSpelled types values payload
    → fields_at types (record { place = place; rest = payload }) ≡ Ok values
fields_at-spelled [] [] payload place spelled = rw spelled (end_at-spelled place)
fields_at-spelled [] (value ∷ values) payload place spelled = absurd spelled
fields_at-spelled (type ∷ types) [] payload place spelled = absurd spelled
fields_at-spelled (type ∷ types) (value ∷ values) payload place spelled =
    let first = field_at-spelled type value spelled.0 spelled.1 place spelled.2 in
    let more = fields_at-spelled types values spelled.1 (place + 1) spelled.4 in
    rw spelled.3 (rw first (rw more refl))

-- what goes through a step of reading
ok_of : {A B : Type 0} (read : Result A MsgError) (f : A → B) (y : B) → (read >>= λ x. Ok (f x)) ≡ Ok y → (x : A) × (read ≡ Ok x) × (f x ≡ y)
ok_of (Ok x) f y is = (x, refl, cc)
ok_of (Err e) f y is = absurd cc

err_of : {A B : Type 0} (read : Result A MsgError) (f : A → B) (e : MsgError) → (read >>= λ x. Ok (f x)) ≡ Err e → read ≡ Err e
err_of (Ok x) f e is = absurd cc
err_of (Err d) f e is = cc

-- a field without a defect is its spelling and what lies behind it
record IsFirst (type : FieldType) (rest : List ℕ) : Type 0 where
  spells : Spells type (value_at type rest) (take (size type rest) rest)
  split : rest ≡ take (size type rest) rest ++ drop (size type rest) rest

first_of_rest : (type : FieldType) (rest : List ℕ) → IsBytes rest → defect type rest ≡ None → IsFirst type rest
first_of_rest type rest fits none =
    record { spells = (lies type rest fits none).spells; split = sym (take-append-drop (size type rest) rest) }

-- what is left behind the first field
abbrev behind : FieldType → List ℕ → ℕ → Left
behind type rest place = record { place = place + 1; rest = drop (size type rest) rest }

-- values that were read are spelled
spelled_end : (values : List FieldValue) (rest : List ℕ) → end_by rest ≡ Ok values → AreSpelled [] values rest
spelled_end [] [] is = refl
spelled_end (value ∷ values) [] is = absurd cc
spelled_end values (byte ∷ bytes) is = absurd cc

spelled_more : (type : FieldType) (types : List FieldType) (values : List FieldValue) (rest : List ℕ) (place : ℕ) (found : Option ReadError) → IsBytes rest
    → defect type rest ≡ found
    → ((others : List FieldValue) → fields_at types (behind type rest place) ≡ Ok others → AreSpelled types others (drop (size type rest) rest))
    → (field_by found type (record { place = place; rest = rest }) >>= λ first. fields_at types first.1 >>= λ more. Ok (first.0 ∷ more)) ≡ Ok values
    → AreSpelled (type ∷ types) values rest
spelled_more type types values rest place (Some reason) fits found others is = absurd cc
spelled_more type types values rest place None fits found others is =
    let first = first_of_rest type rest fits found in
    let more = ok_of (fields_at types (behind type rest place)) (λ (more : List FieldValue). value_at type rest ∷ more) values is in
    subst (λ (vs : List FieldValue). AreSpelled (type ∷ types) vs rest) more.2
    (take (size type rest) rest, drop (size type rest) rest, first.spells, first.split, others more.0 more.1)

pub spelled-fields_at : (types : List FieldType) (values : List FieldValue) (rest : List ℕ) (place : ℕ) → IsBytes rest
    → fields_at types (record { place = place; rest = rest }) ≡ Ok values → AreSpelled types values rest
unfolding end_at field_at
spelled-fields_at [] values rest place fits is = spelled_end values rest is
spelled-fields_at (type ∷ types) values rest place fits is =
    spelled_more type types values rest place (defect type rest) fits refl
    (λ others given. spelled-fields_at types others (drop (size type rest) rest) (place + 1) (IsBytes-drop (size type rest) rest fits) given) is

-- a defect of the fields from a place on
abbrev pub DefectFrom : List FieldType → List ℕ → ℕ → MsgError → Type 0
DefectFrom types rest place (UnknownKind kind) = ⊥
DefectFrom types rest place (BadField at reason) = (further : ℕ) × (at ≡ place + further) × IsBadField types rest further reason
DefectFrom types rest place (Trailing count) = IsTrailing types rest count

-- one field more in front
bad_more : (type : FieldType) (value : FieldValue) (types : List FieldType) (first more : List ℕ) (further : ℕ) (reason : ReadError) → Spells type value first
    → IsBadField types more further reason → IsBadField (type ∷ types) (first ++ more) (further + 1) reason
bad_more type value types first more further reason spells bad = record {
  before = type ∷ bad.before;
  type = bad.type;
  after = bad.after;
  row = ap (λ (ts : List FieldType). type ∷ ts) bad.row;
  counted = omega (arith, bad.counted);
  values = value ∷ bad.values;
  read = first ++ bad.read;
  rest = bad.rest;
  spelled = (first, bad.read, spells, refl, bad.spelled);
  whole = ap (λ (xs : List ℕ). first ++ xs) bad.whole ∙ sym (append_assoc first bad.read bad.rest);
  refused = bad.refused;
}

trailing_more : (type : FieldType) (value : FieldValue) (types : List FieldType) (first more : List ℕ) (count : ℕ) → Spells type value first
    → IsTrailing types more count → IsTrailing (type ∷ types) (first ++ more) count
trailing_more type value types first more count spells trailing = record {
  values = value ∷ trailing.values;
  read = first ++ trailing.read;
  rest = trailing.rest;
  spelled = (first, trailing.read, spells, refl, trailing.spelled);
  whole = ap (λ (xs : List ℕ). first ++ xs) trailing.whole ∙ sym (append_assoc first trailing.read trailing.rest);
  some = trailing.some;
  counted = trailing.counted;
}

defect_more : (type : FieldType) (value : FieldValue) (types : List FieldType) (first more : List ℕ) (place : ℕ) (e : MsgError) → Spells type value first
    → DefectFrom types more (place + 1) e → DefectFrom (type ∷ types) (first ++ more) place e
defect_more type value types first more place (UnknownKind kind) spells from = absurd from
defect_more type value types first more place (BadField at reason) spells from =
    (from.0 + 1, omega (arith, from.1), bad_more type value types first more from.0 reason spells from.2)
defect_more type value types first more place (Trailing count) spells from = trailing_more type value types first more count spells from

-- what was refused has this defect
defect_end : (rest : List ℕ) (place : ℕ) (e : MsgError) → end_by rest ≡ Err e → DefectFrom [] rest place e
defect_end [] place e is = absurd cc
defect_end (byte ∷ bytes) place e is =
    let same : Trailing (length (byte ∷ bytes)) ≡ e = cc in
    subst (λ (d : MsgError). DefectFrom [] (byte ∷ bytes) place d) same
    (record { values = []; read = []; rest = byte ∷ bytes; spelled = refl; whole = refl; some = λ none. absurd cc; counted = refl })

defect_first : (type : FieldType) (types : List FieldType) (rest : List ℕ) (place : ℕ) (reason : ReadError) → defect type rest ≡ Some reason
    → DefectFrom (type ∷ types) rest place (BadField place reason)
defect_first type types rest place reason found =
    (0, omega arith, record { before = []; type = type; after = types; row = refl; counted = refl; values = []; read = []; rest = rest; spelled = refl; whole = refl; refused = found })

defect_step : (type : FieldType) (types : List FieldType) (rest : List ℕ) (place : ℕ) (e : MsgError) (found : Option ReadError) → IsBytes rest
    → defect type rest ≡ found
    → ((d : MsgError) → fields_at types (behind type rest place) ≡ Err d → DefectFrom types (drop (size type rest) rest) (place + 1) d)
    → (field_by found type (record { place = place; rest = rest }) >>= λ first. fields_at types first.1 >>= λ more. Ok (first.0 ∷ more)) ≡ Err e
    → DefectFrom (type ∷ types) rest place e
defect_step type types rest place e (Some reason) fits found others is =
    let same : BadField place reason ≡ e = cc in
    subst (λ (d : MsgError). DefectFrom (type ∷ types) rest place d) same (defect_first type types rest place reason found)
defect_step type types rest place e None fits found others is =
    let first = first_of_rest type rest fits found in
    let more = err_of (fields_at types (behind type rest place)) (λ (more : List FieldValue). value_at type rest ∷ more) e is in
    subst (λ (xs : List ℕ). DefectFrom (type ∷ types) xs place e) (sym first.split)
    (defect_more type (value_at type rest) types (take (size type rest) rest) (drop (size type rest) rest) place e first.spells (others e more))

pub defect-fields_at : (types : List FieldType) (rest : List ℕ) (place : ℕ) (e : MsgError) → IsBytes rest
    → fields_at types (record { place = place; rest = rest }) ≡ Err e → DefectFrom types rest place e
unfolding end_at field_at
defect-fields_at [] rest place e fits is = defect_end rest place e is
defect-fields_at (type ∷ types) rest place e fits is =
    defect_step type types rest place e (defect type rest) fits refl
    (λ d given. defect-fields_at types (drop (size type rest) rest) (place + 1) d (IsBytes-drop (size type rest) rest fits) given) is

-- a field that can't be read is refused at its place
pub bad_refused : (before : List FieldType) (type : FieldType) (after : List FieldType) (values : List FieldValue) (read rest : List ℕ) (place : ℕ) (reason : ReadError)
    → AreSpelled before values read → defect type rest ≡ Some reason
    → fields_at (before ++ type ∷ after) (record { place = place; rest = read ++ rest }) ≡ Err (BadField (place + length before) reason)
bad_refused [] type after [] read rest place reason spelled refused =
    let step = field_refused type (record { place = place; rest = rest }) reason (sym refused) in
    rw spelled (rw step (ap (λ (n : ℕ). Err (BadField n reason)) (omega arith)))
bad_refused [] type after (value ∷ values) read rest place reason spelled refused = absurd spelled
bad_refused (t ∷ before) type after [] read rest place reason spelled refused = absurd spelled
bad_refused (t ∷ before) type after (value ∷ values) read rest place reason spelled refused =
    let split : read ++ rest ≡ spelled.0 ++ (spelled.1 ++ rest) = ap (λ (xs : List ℕ). xs ++ rest) spelled.3 ∙ append_assoc spelled.0 spelled.1 rest in
    let first = field_at-spelled t value spelled.0 (spelled.1 ++ rest) place spelled.2 in
    let more = bad_refused before type after values spelled.1 rest (place + 1) reason spelled.4 refused in
    rw split (rw first (rw more (ap (λ (n : ℕ). Err (BadField n reason)) (omega arith))))

-- bytes behind the last field are refused
trailing_end : (rest : List ℕ) → rest ≢ [] → end_by rest ≡ Err (Trailing (length rest))
trailing_end [] some = absurd (some refl)
trailing_end (byte ∷ bytes) some = refl

pub trailing_refused : (types : List FieldType) (values : List FieldValue) (read rest : List ℕ) (place : ℕ) → AreSpelled types values read → rest ≢ []
    → fields_at types (record { place = place; rest = read ++ rest }) ≡ Err (Trailing (length rest))
unfolding end_at
trailing_refused [] [] read rest place spelled some = rw spelled (trailing_end rest some)
trailing_refused [] (value ∷ values) read rest place spelled some = absurd spelled
trailing_refused (t ∷ types) [] read rest place spelled some = absurd spelled
trailing_refused (t ∷ types) (value ∷ values) read rest place spelled some =
    let split : read ++ rest ≡ spelled.0 ++ (spelled.1 ++ rest) = ap (λ (xs : List ℕ). xs ++ rest) spelled.3 ∙ append_assoc spelled.0 spelled.1 rest in
    let first = field_at-spelled t value spelled.0 (spelled.1 ++ rest) place spelled.2 in
    let more = trailing_refused types values spelled.1 rest (place + 1) spelled.4 some in
    rw split (rw first (rw more refl))
