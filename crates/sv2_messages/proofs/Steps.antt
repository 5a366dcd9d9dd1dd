-- One field is read from what is left.
use Rattle.std.proofs.Common.{◌≡◌, ℕ, ◌+◌, ◌<◌, ◌≤◌, None, Some, Option, Ok, Err, List, [], ◌∷◌, ◌++◌, length, drop, refl, sym, ap, subst, ◌∙◌, arith}
use Rattle.std.proofs.lemmas.List.{drop_at, nil_from_length}
use Rattle.sv2_types.specs.declared.error.ReadError.{ReadError}
use Rattle.sv2_types.specs.Cursor.{Cursor, MovesOver, unread_bytes}
use Rattle.sv2_types.specs.Fields.{FieldType, FieldValue, Spells}
use Rattle.sv2_types.specs.Reading.{size, value_at, defect}
use Rattle.sv2_types.proofs.Laws.{value_at-spelled, size-spelled, defect-spelled}
use Rattle.sv2_messages.specs.declared.error.MsgError.TheVariants.{BadField, Trailing}
use Rattle.sv2_messages.specs.Reading.{Left, field_by, field_at, end_at}

-- a spelling at the front is read, and what is behind it is left
pub field_at-spelled : (type : FieldType) (value : FieldValue) (spelled more : List ℕ) (place : ℕ) → Spells type value spelled
    → field_at type (record { place = place; rest = spelled ++ more }) ≡ Ok (value, record { place = place + 1; rest = more })
unfolding field_at
field_at-spelled type value spelled more place spells =
    let none : defect type (spelled ++ more) ≡ None = defect-spelled type value spelled more spells in
    let seen : value_at type (spelled ++ more) ≡ value = value_at-spelled type value spelled more spells in
    let len : size type (spelled ++ more) ≡ length spelled = size-spelled type value spelled more spells in
    let behind : drop (size type (spelled ++ more)) (spelled ++ more) ≡ more = rw len (drop_at spelled more (length spelled) refl) in
    let step = λ (none : Option ReadError). field_by none type (record { place = place; rest = spelled ++ more }) in
    ap step none ∙ ap (λ (v : FieldValue). Ok (v, record { place = place + 1; rest = drop (size type (spelled ++ more)) (spelled ++ more) })) seen
    ∙ ap (λ (r : List ℕ). Ok (value, record { place = place + 1; rest = r })) behind

-- what a reader of primitive values moved over is the field at the front
pub field_read : (type : FieldType) (value : FieldValue) (spelled : List ℕ) (left : Left) (cursor : Cursor) (after : Left) → Spells type value spelled
    → MovesOver spelled (record { bytes = left.rest; at = 0 }) cursor
    → after ≡ record { place = left.place + 1; rest = drop cursor.at left.rest }
    → field_at type left ≡ Ok (value, after)
field_read type value spelled left cursor after spells moves is =
    let whole : left.rest ≡ spelled ++ drop cursor.at left.rest = moves.spelled in
    let front : left ≡ record { place = left.place; rest = spelled ++ drop cursor.at left.rest } = ap (λ (r : List ℕ). record { place = left.place; rest = r }) whole in
    ap (field_at type) front ∙ field_at-spelled type value spelled (drop cursor.at left.rest) left.place spells ∙ ap (λ (a : Left). Ok (value, a)) (sym is)

-- what it refused is a field that can't be read
pub field_refused : (type : FieldType) (left : Left) (reason : ReadError) → Some reason ≡ defect type left.rest
    → field_at type left ≡ Err (BadField left.place reason)
unfolding field_at
field_refused type left reason refused = rw (← refused) refl

-- the same, at the names of a reader of fields
pub passed : (type : FieldType) (value : FieldValue) (spelled : List ℕ) (place : ℕ) (rest : List ℕ) (left : Left) (start cursor : Cursor) (count : ℕ) (after : Left)
    → Spells type value spelled → record { place = place; rest = rest } ≡ left → start ≡ record { bytes = rest; at = 0 }
    → MovesOver spelled start cursor → count ≡ cursor.at → after ≡ record { place = left.place + 1; rest = drop count left.rest }
    → field_at type left ≡ Ok (value, after)
passed type value spelled place rest left start cursor count after spells view fresh moves counted is =
    let at_start : MovesOver spelled (record { bytes = rest; at = 0 }) cursor = subst (λ (s : Cursor). MovesOver spelled s cursor) fresh moves in
    ap (field_at type) (sym view)
    ∙ field_read type value spelled (record { place = place; rest = rest }) cursor after spells at_start
    (is ∙ ap (λ (n : ℕ). record { place = left.place + 1; rest = drop n left.rest }) counted ∙ ap (λ (l : Left). record { place = l.place + 1; rest = drop cursor.at l.rest }) (sym view))

pub refused : (type : FieldType) (place : ℕ) (rest : List ℕ) (left : Left) (start : Cursor) (reason : ReadError)
    → record { place = place; rest = rest } ≡ left → start ≡ record { bytes = rest; at = 0 }
    → Some reason ≡ defect type (unread_bytes start) → field_at type left ≡ Err (BadField place reason)
refused type place rest left start reason view fresh defective =
    ap (field_at type) (sym view)
    ∙ field_refused type (record { place = place; rest = rest }) reason (defective ∙ ap (λ (s : Cursor). defect type (unread_bytes s)) fresh)

-- the end
pub ended : (place : ℕ) (rest : List ℕ) (left : Left) → record { place = place; rest = rest } ≡ left → length rest < 1 → end_at left ≡ Ok []
unfolding end_at
ended place rest left view short = rw (← view, nil_from_length rest (omega arith)) refl

pub trails : (place : ℕ) (rest : List ℕ) (left : Left) → record { place = place; rest = rest } ≡ left → 1 ≤ length rest → end_at left ≡ Err (Trailing (length rest))
unfolding end_at
trails place [] left view long = absurd (omega arith)
trails place (byte ∷ bytes) left view long = rw (← view) refl
