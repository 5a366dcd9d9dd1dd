-- What a reader has that moved over a part.
use Rattle.std.proofs.Common.{◌≡◌, ℕ, ◌+◌, ◌-◌, ◌≤◌, true, false, None, Some, Result, Ok, Err, IsErrAnd, List, ◌++◌, length, take, drop, refl, sym, ap, ◌∙◌, subst, arith}
use Rattle.std.specs.Result.{result_err}
use Rattle.std.specs.Str.{IsUtf8, is_utf8}
use Rattle.std.proofs.lemmas.Bool.{le-ltb}
use Rattle.std.proofs.lemmas.Str.{IsUtf8-from_is_utf8, is_utf8-from_IsUtf8}
use Rattle.std.proofs.lemmas.List.{length-append, length-drop, take_rest, take-append-drop, take-append-le, take_at, drop-append-le}
use Rattle.sv2_types.specs.declared.error.ReadError.{ReadError}
use Rattle.sv2_types.specs.declared.error.ReadError.TheVariants.{NotUtf8}
use Rattle.sv2_types.specs.Cursor.{Cursor, MovesOver, unread_bytes}
use Rattle.sv2_types.specs.Fields.{FieldType, FieldValue, STR0_255, Spells}
use Rattle.sv2_types.specs.Reading.{said, defect, text_defect, FindsValue}
use Rattle.sv2_types.proofs.Laws.{spellings_agree, defect-spelled}

-- the reader moved over a spelling, so no other value lies there
pub only_value : (type : FieldType) (value : FieldValue) (spelled : List ℕ) (old new : Cursor) → Spells type value spelled
    → MovesOver spelled old new → (other : FieldValue) (written more : List ℕ) → Spells type other written → unread_bytes old ≡ written ++ more
    → value ≡ other
only_value type value spelled old new spells moves other written more there e =
    (spellings_agree type value other spelled written (drop new.at old.bytes) more spells there (sym moves.spelled ∙ e)).0

-- there is a defect, so no value lies there
pub no_value : (type : FieldType) (rest : List ℕ) (error : ReadError) → Some error ≡ defect type rest
    → (other : FieldValue) (written more : List ℕ) → Spells type other written → rest ≡ written ++ more → ⊥
no_value type rest error refused other written more there e =
    let none : defect type (written ++ more) ≡ None = defect-spelled type other written more there in
    let some : Some error ≡ defect type (written ++ more) = refused ∙ ap (defect type) e in
    cc

-- the content behind a length of k bytes
abbrev pub content_of : ℕ → List ℕ → List ℕ
content_of k part = take (length part - k) (drop k part)

-- the part is the head that was looked at, and the content
pub moved_head : (k n count : ℕ) (head : ℕ → List ℕ) (part body rest : List ℕ) (old new : Cursor) → MovesOver part old new
    → k ≤ length part → rest ≡ unread_bytes old → (k ≤ length rest → head n ≡ take k rest) → n ≡ count → body ≡ content_of k part
    → MovesOver (head count ++ body) old new
moved_head k n count head part body rest old new moves room is says counted content =
    let more : List ℕ = drop new.at old.bytes in
    let split : rest ≡ part ++ more = is ∙ moves.spelled in
    let whole : k ≤ length rest = rw split (omega (arith, length-append part more)) in
    let front : head n ≡ take k part = says whole ∙ ap (take k) split ∙ take-append-le k part more room in
    let same : head count ++ body ≡ part =
    rw (← counted) (rw content (rw (take_rest part k) (rw front (take-append-drop k part)))) in
    subst (λ (s : List ℕ). MovesOver s old new) (sym same) moves

-- it has the length that is said, and the part is its spelling
pub length-content : (k n : ℕ) (part : List ℕ) → length part ≡ k + n → length (content_of k part) ≡ n
length-content k n part len = rw (take_rest part k) (omega (arith, length-drop k part))

pub moved_content : (k n : ℕ) (head : ℕ → List ℕ) (part rest : List ℕ) (old new : Cursor) → MovesOver part old new
    → length part ≡ k + n → rest ≡ unread_bytes old → (k ≤ length rest → head n ≡ take k rest)
    → MovesOver (head (length (content_of k part)) ++ content_of k part) old new
moved_content k n head part rest old new moves len is says =
    moved_head k n _ head part _ rest old new moves (omega (arith, len)) is says (sym (length-content k n part len)) refl

-- a text that is there has the defect of its content
pub defect-text : (n : ℕ) (part rest : List ℕ) (old new : Cursor) → MovesOver part old new → length part ≡ 1 + n
    → rest ≡ unread_bytes old → n ≡ said 1 rest → defect STR0_255 (unread_bytes old) ≡ text_defect (content_of 1 part)
defect-text n part rest old new moves len is says =
    let counted : n ≡ said 1 (unread_bytes old) = says ∙ ap (said 1) is in
    let more : List ℕ = drop new.at old.bytes in
    let whole : length (unread_bytes old) ≡ length part + length more = rw moves.spelled (length-append part more) in
    let room : 1 ≤ length part = omega arith in
    let content : take n (drop 1 (unread_bytes old)) ≡ content_of 1 part =
    rw moves.spelled (rw (drop-append-le 1 part more room) (take_at (drop 1 part) more n (omega (arith, length-drop 1 part)) ∙ sym (take_rest part 1))) in
    rw (← counted) (rw (le-ltb (length (unread_bytes old)) (1 + n) (omega arith)) (ap text_defect content))

-- a text has no defect
pub text_is_good : (content : List ℕ) → IsUtf8 content → None ≡ text_defect content
text_is_good content utf8 = rw (is_utf8-from_IsUtf8 content utf8) refl

-- what is no text has one
pub text_is_bad : (content : List ℕ) → ¬ (IsUtf8 content) → Some NotUtf8 ≡ text_defect content
text_is_bad content bad =
    elim (is_utf8 content) as (λ b. is_utf8 content ≡ b → Some NotUtf8 ≡ text_defect content)
    [ true ↦ λ e. absurd (bad (IsUtf8-from_is_utf8 content e)) | false ↦ λ e. rw e refl ] refl

-- at the exit of a `?`: there is a defect, so no value lies there
pub finds_at_err : {X : Type 0} (type : FieldType) (seen : X → FieldValue) (rest : List ℕ) (result : Result X ReadError) (Q : ReadError → Type 0)
    → IsErrAnd result Q → result_err result ≡ defect type rest → FindsValue type seen rest result
finds_at_err type seen rest (Ok x) Q is refused = absurd is
finds_at_err type seen rest (Err error) Q is refused = no_value type rest error refused
