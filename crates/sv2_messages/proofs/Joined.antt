-- A kind stands in one of several tables that are joined.
use Rattle.std.proofs.Common.{◌≡◌, ◌==◌, ℕ, true, false, if◌then◌else◌, Option, None, Some, Result, Ok, Err, List, [], ◌∷◌, ◌++◌, refl, sym, ap, ◌∙◌}
use Rattle.std.specs.Prelude.{IsErrOf, ◌↔◌}
use Rattle.sv2_types.specs.Fields.{FieldType}
use Rattle.sv2_messages.specs.declared.error.MsgError.{MsgError}
use Rattle.sv2_messages.specs.declared.error.MsgError.TheVariants.{UnknownKind}
use Rattle.sv2_messages.specs.Messages.{Row, row_types, types_of}
use Rattle.sv2_messages.specs.Reading.{IsDefectBy, IsFirstDefect}

-- a kind that the first tables lack is looked up in the others
pub types_of-other : (rows more : List Row) (kind : ℕ) → types_of rows kind ≡ None → types_of (rows ++ more) kind ≡ types_of more kind
types_of-other [] more kind none = refl
types_of-other (row ∷ rows) more kind none =
    elim (row.kind == kind) as (λ b. (if b then Some (row_types row) else types_of rows kind) ≡ None → (if b then Some (row_types row) else types_of (rows ++ more) kind) ≡ types_of more kind)
    [ true ↦ λ e. absurd cc | false ↦ λ e. types_of-other rows more kind e ] none

-- a kind that they have isn't
pub types_of-first : (rows more : List Row) (kind : ℕ) (types : List FieldType) → types_of rows kind ≡ Some types → types_of (rows ++ more) kind ≡ Some types
types_of-first [] more kind types some = absurd cc
types_of-first (row ∷ rows) more kind types some =
    elim (row.kind == kind) as (λ b. (if b then Some (row_types row) else types_of rows kind) ≡ Some types → (if b then Some (row_types row) else types_of (rows ++ more) kind) ≡ Some types)
    [ true ↦ λ e. e | false ↦ λ e. types_of-first rows more kind types e ] some

-- a defect that isn't an unknown kind is the same by both
defect_first : (found : Option (List FieldType)) (rows more : List Row) (kind : ℕ) (payload : List ℕ) (e : MsgError) → types_of rows kind ≡ found
    → (found ≡ None → ⊥) → IsDefectBy (types_of rows kind) kind payload e ↔ IsDefectBy (types_of (rows ++ more) kind) kind payload e
defect_first None rows more kind payload e is some = absurd (some refl)
defect_first (Some types) rows more kind payload e is some =
    let both = types_of-first rows more kind types is in
    rw (is, both) (λ d. d, λ d. d)

-- the kind isn't in a table that refuses it as unknown
none_of_unknown : (found : Option (List FieldType)) (kind k : ℕ) (payload : List ℕ) → IsDefectBy found kind payload (UnknownKind k) → found ≡ None
none_of_unknown None kind k payload defect = refl
none_of_unknown (Some types) kind k payload defect = absurd defect

-- it is in a table that reads it
some_of_known : (found : Option (List FieldType)) (kind : ℕ) (payload : List ℕ) → (IsDefectBy found kind payload (UnknownKind kind) → ⊥) → found ≡ None → ⊥
some_of_known None kind payload not_defect is = not_defect refl
some_of_known (Some types) kind payload not_defect is = cc

-- what the first table answers of a kind that it has, the joined table answers
pub answers_first : {X Y : Type 0} (read : Result X MsgError) (result : Result Y MsgError) (rows more : List Row) (kind : ℕ) (payload : List ℕ)
    → ((e : MsgError) → IsErrOf read e ↔ IsFirstDefect rows kind payload e)
    → ((k : ℕ) → read ≡ Err (UnknownKind k) → ⊥)
    → ((e : MsgError) → IsErrOf result e ↔ IsErrOf read e)
    → (e : MsgError) → IsErrOf result e ↔ IsFirstDefect (rows ++ more) kind payload e
answers_first read result rows more kind payload exact known same e =
    let some = some_of_known (types_of rows kind) kind payload (λ d. known kind ((exact (UnknownKind kind)).1 d)) in
    let both = defect_first (types_of rows kind) rows more kind payload e refl some in
    (λ is. both.0 ((exact e).0 ((same e).0 is)), λ d. (same e).1 ((exact e).1 (both.1 d)))

-- what the other tables answer of a kind that the first lacks, the joined table answers
pub answers_other : {X Y : Type 0} (read : Result X MsgError) (result : Result Y MsgError) (rows more : List Row) (kind k : ℕ) (payload : List ℕ)
    → ((e : MsgError) → IsErrOf read e ↔ IsFirstDefect rows kind payload e)
    → read ≡ Err (UnknownKind k)
    → ((e : MsgError) → IsErrOf result e ↔ IsFirstDefect more kind payload e)
    → (e : MsgError) → IsErrOf result e ↔ IsFirstDefect (rows ++ more) kind payload e
answers_other read result rows more kind k payload exact unknown others e =
    let none = none_of_unknown (types_of rows kind) kind k payload ((exact (UnknownKind k)).0 unknown) in
    rw (types_of-other rows more kind none) (others e)

-- two results with one error refuse alike
same_error : {X Y : Type 0} (read : Result X MsgError) (error e : MsgError) → read ≡ Err error → IsErrOf {T = Y} (Err error) e ↔ IsErrOf read e
same_error read error e is = (
  λ same. is ∙ (let errors : error ≡ e = cc in ap (λ (x : MsgError). Err x) errors),
  λ same. (let both : Err error ≡ Err e = sym is ∙ same in let errors : error ≡ e = cc in ap (λ (x : MsgError). Err x) errors),
)

same_ok : {X : Type 0} (read : Result X MsgError) (x : X) (e : MsgError) → read ≡ Ok x → IsErrOf {T = Unit {0}} (Ok tt) e ↔ IsErrOf read e
same_ok read x e is = (
  λ same. absurd cc,
  λ same. absurd (let both : Ok x ≡ Err e = sym is ∙ same in cc),
)

-- the first table has the kind, and its error is returned
pub first_error : {X Y : Type 0} (read : Result X MsgError) (error : MsgError) (rows more : List Row) (kind : ℕ) (payload : List ℕ)
    → ((e : MsgError) → IsErrOf read e ↔ IsFirstDefect rows kind payload e) → read ≡ Err error → ((k : ℕ) → error ≡ UnknownKind k → ⊥)
    → (e : MsgError) → IsErrOf {T = Y} (Err error) e ↔ IsFirstDefect (rows ++ more) kind payload e
first_error read error rows more kind payload exact is known e =
    answers_first read (Err error) rows more kind payload exact
    (λ k unknown. known k (let both : Err error ≡ Err (UnknownKind k) = sym is ∙ unknown in cc))
    (λ d. same_error read error d is) e

-- the last table decides
pub last_error : {X Y : Type 0} (read : Result X MsgError) (error : MsgError) (rows : List Row) (kind : ℕ) (payload : List ℕ)
    → ((e : MsgError) → IsErrOf read e ↔ IsFirstDefect rows kind payload e) → read ≡ Err error
    → (e : MsgError) → IsErrOf {T = Y} (Err error) e ↔ IsFirstDefect rows kind payload e
last_error read error rows kind payload exact is e =
    let same = same_error read error e is in
    (λ d. (exact e).0 (same.0 d), λ d. same.1 ((exact e).1 d))
