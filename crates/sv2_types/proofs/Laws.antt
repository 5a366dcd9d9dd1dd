-- A spelling is read as its value, has no defect, and begins no other.
use Rattle.std.proofs.Common.{◌≡◌, ◌==◌, ℕ, ◌+◌, ◌%◌, ◌≤◌, Bool, true, false, Option, None, Some, List, ◌∷◌, ◌++◌, length, take, drop, refl, sym, ap, ◌∙◌, arith}
use Rattle.std.proofs.lemmas.List.{length-append, take_at, drop_at}
use Rattle.std.proofs.lemmas.Bool.{le-ltb}
use Rattle.std.proofs.lemmas.Str.{is_utf8-from_IsUtf8}
use Rattle.std.specs.Str.{IsUtf8}
use Rattle.sv2_types.specs.Spelling.{spelled_u32, spelled_boolean, spelled_str255, spelled_b255, spelled_option_u32}
use Rattle.sv2_types.specs.Fields.{FieldType, FieldValue, U8, U16, U24, U32, U64, UINT256, BOOL, F32, STR0_255, B0_255, B0_32, B0_64K, B0_16M, OPTION_U32, SEQ0_255_U256, SEQ0_64K_U256, SEQ0_64K_U16, SEQ0_64K_B0_16M, Number, Truth, Bytes, Perhaps, Numbers, Parts, Admits, spelling, SpellsTruth, Spells}
use Rattle.sv2_types.specs.Reading.{said, size, value_at, defect, short_defect, text_defect}
use Rattle.sv2_types.proofs.Numbers.{said-u8, said-u16, said-u24, said-u32, said-u64}
use Rattle.sv2_types.proofs.Items.{first_chunks-items, length-items, numbers_at-numbers, length-numbers, parts_at-parts, parts_size-parts}

-- content behind its length
content_at : (n : ℕ) (content rest : List ℕ) → n ≡ length content → take n (content ++ rest) ≡ content
content_at n content rest e = take_at content rest n (sym e)

-- what was written is read as its value
pub value_at-spelling : (type : FieldType) (value : FieldValue) (rest : List ℕ) → Admits type value
    → value_at type (spelling type value ++ rest) ≡ value
value_at-spelling U8 (Number n) rest fits = ap Number (said-u8 n rest)
value_at-spelling U16 (Number n) rest fits = ap Number (said-u16 n rest fits)
value_at-spelling U24 (Number n) rest fits = ap Number (said-u24 n rest fits)
value_at-spelling U32 (Number n) rest fits = ap Number (said-u32 n rest fits)
value_at-spelling U64 (Number n) rest fits = ap Number (said-u64 n rest fits)
value_at-spelling UINT256 (Bytes content) rest fits = ap Bytes (take_at content rest 32 fits)
value_at-spelling BOOL (Truth false) rest fits = refl
value_at-spelling BOOL (Truth true) rest fits = refl
value_at-spelling F32 (Bytes content) rest fits = ap Bytes (take_at content rest 4 fits)
value_at-spelling STR0_255 (Bytes content) rest fits =
    ap Bytes (content_at _ content rest (said-u8 (length content) (content ++ rest)))
value_at-spelling B0_255 (Bytes content) rest fits =
    ap Bytes (content_at _ content rest (said-u8 (length content) (content ++ rest)))
value_at-spelling B0_32 (Bytes content) rest fits =
    ap Bytes (content_at _ content rest (said-u8 (length content) (content ++ rest)))
value_at-spelling B0_64K (Bytes content) rest fits =
    ap Bytes (content_at _ content rest (said-u16 (length content) (content ++ rest) fits))
value_at-spelling B0_16M (Bytes content) rest fits =
    ap Bytes (content_at _ content rest (said-u24 (length content) (content ++ rest) fits))
value_at-spelling OPTION_U32 (Perhaps None) rest fits = refl
value_at-spelling OPTION_U32 (Perhaps (Some n)) rest fits = ap (λ m. Perhaps (Some m)) (said-u32 n rest fits)
value_at-spelling SEQ0_255_U256 (Parts items) rest fits = rw (said-u8 (length items) _) (ap Parts (first_chunks-items items rest fits.1))
value_at-spelling SEQ0_64K_U256 (Parts items) rest fits = rw (said-u16 (length items) _ fits.0) (ap Parts (first_chunks-items items rest fits.1))
value_at-spelling SEQ0_64K_U16 (Numbers numbers) rest fits = rw (said-u16 (length numbers) _ fits.0) (ap Numbers (numbers_at-numbers numbers rest fits.1))
value_at-spelling SEQ0_64K_B0_16M (Parts parts) rest fits = rw (said-u16 (length parts) _ fits.0) (ap Parts (parts_at-parts parts rest fits.1))
value_at-spelling type value rest fits = absurd fits

-- what was written takes the bytes that it has
pub size-spelling : (type : FieldType) (value : FieldValue) (rest : List ℕ) → Admits type value
    → size type (spelling type value ++ rest) ≡ length (spelling type value)
size-spelling U8 (Number n) rest fits = refl
size-spelling U16 (Number n) rest fits = refl
size-spelling U24 (Number n) rest fits = refl
size-spelling U32 (Number n) rest fits = refl
size-spelling U64 (Number n) rest fits = refl
size-spelling UINT256 (Bytes content) rest fits = sym fits
size-spelling BOOL (Truth false) rest fits = refl
size-spelling BOOL (Truth true) rest fits = refl
size-spelling F32 (Bytes content) rest fits = sym fits
size-spelling STR0_255 (Bytes content) rest fits = omega (arith, said-u8 (length content) (content ++ rest))
size-spelling B0_255 (Bytes content) rest fits = omega (arith, said-u8 (length content) (content ++ rest))
size-spelling B0_32 (Bytes content) rest fits = omega (arith, said-u8 (length content) (content ++ rest))
size-spelling B0_64K (Bytes content) rest fits = omega (arith, said-u16 (length content) (content ++ rest) fits)
size-spelling B0_16M (Bytes content) rest fits = omega (arith, said-u24 (length content) (content ++ rest) fits)
size-spelling OPTION_U32 (Perhaps None) rest fits = refl
size-spelling OPTION_U32 (Perhaps (Some n)) rest fits = refl
size-spelling SEQ0_255_U256 (Parts items) rest fits = rw (said-u8 (length items) _) (omega (arith, length-items items fits.1))
size-spelling SEQ0_64K_U256 (Parts items) rest fits = rw (said-u16 (length items) _ fits.0) (omega (arith, length-items items fits.1))
size-spelling SEQ0_64K_U16 (Numbers numbers) rest fits = rw (said-u16 (length numbers) _ fits.0) (omega (arith, length-numbers numbers))
size-spelling SEQ0_64K_B0_16M (Parts parts) rest fits = rw (said-u16 (length parts) _ fits.0) (omega (arith, parts_size-parts parts rest fits.1))
size-spelling type value rest fits = absurd fits

-- a BOOL's other forms are read as the one that is written
truth_value : (value : FieldValue) (spelled rest : List ℕ) → SpellsTruth value spelled → value_at BOOL (spelled ++ rest) ≡ value
truth_value value spelled rest form =
    rw (form.lowest_bit, form.alone) (ap (λ n. Truth (n % 2 == 1)) (said-u8 form.byte rest))

-- a spelling is read as its value
pub value_at-spelled : (type : FieldType) (value : FieldValue) (spelled rest : List ℕ) → Spells type value spelled
    → value_at type (spelled ++ rest) ≡ value
value_at-spelled BOOL value spelled rest spells = truth_value value spelled rest spells.form
value_at-spelled type value spelled rest spells = rw spells.form (value_at-spelling type value rest spells.admits)

-- a spelling takes the bytes that it has
pub size-spelled : (type : FieldType) (value : FieldValue) (spelled rest : List ℕ) → Spells type value spelled
    → size type (spelled ++ rest) ≡ length spelled
size-spelled BOOL value spelled rest spells = rw spells.form.alone refl
size-spelled type value spelled rest spells = rw spells.form (size-spelling type value rest spells.admits)

-- what is there is not missing
missing_none : (needed : ℕ) (rest : List ℕ) → needed ≤ length rest → short_defect needed rest ≡ None
missing_none needed rest there = rw (le-ltb (length rest) needed there) refl

-- nor is what is wanted of a text, a short B0_32 or an optional number
text_none : (content rest : List ℕ) → IsUtf8 content → defect STR0_255 (spelled_str255 content ++ rest) ≡ None
text_none content rest utf8 =
    let says = said-u8 (length content) (content ++ rest) in
    rw (le-ltb (length (spelled_str255 content ++ rest)) (1 + said 1 (spelled_str255 content ++ rest)) (omega (arith, says, length-append content rest)))
    (ap text_defect (content_at _ content rest says) ∙ rw (is_utf8-from_IsUtf8 content utf8) refl)

short_none : (content rest : List ℕ) → length content ≤ 32 → defect B0_32 (spelled_b255 content ++ rest) ≡ None
short_none content rest fits =
    let says = said-u8 (length content) (content ++ rest) in
    rw (le-ltb 32 (said 1 (spelled_b255 content ++ rest)) (omega (arith, says)))
    (missing_none _ (spelled_b255 content ++ rest) (omega (arith, says, length-append content rest)))

perhaps_none : (value : Option ℕ) (rest : List ℕ) → defect OPTION_U32 (spelled_option_u32 value ++ rest) ≡ None
perhaps_none None rest = missing_none 1 (0 ∷ rest) (omega arith)
perhaps_none (Some n) rest = missing_none 5 (1 ∷ spelled_u32 n ++ rest) (omega arith)

-- a spelling has no defect
pub defect-spelled : (type : FieldType) (value : FieldValue) (spelled rest : List ℕ) → Spells type value spelled
    → defect type (spelled ++ rest) ≡ None
defect-spelled STR0_255 (Bytes content) spelled rest spells = rw spells.form (text_none content rest spells.admits.1)
defect-spelled STR0_255 value spelled rest spells = absurd spells.admits
defect-spelled B0_32 (Bytes content) spelled rest spells = rw spells.form (short_none content rest spells.admits)
defect-spelled B0_32 value spelled rest spells = absurd spells.admits
defect-spelled OPTION_U32 (Perhaps value) spelled rest spells = rw spells.form (perhaps_none value rest)
defect-spelled OPTION_U32 value spelled rest spells = absurd spells.admits
defect-spelled type value spelled rest spells =
    missing_none _ _ (omega (arith, size-spelled type value spelled rest spells, length-append spelled rest))

-- two fronts of one length are one
fronts_agree : (p q x y : List ℕ) → length p ≡ length q → p ++ x ≡ q ++ y → (p ≡ q) × (x ≡ y)
fronts_agree p q x y len e = (
  sym (take_at p x (length p) refl) ∙ ap (take (length p)) e ∙ take_at q y (length p) (sym len),
  sym (drop_at p x (length p) refl) ∙ ap (drop (length p)) e ∙ drop_at q y (length p) (sym len),
)

-- bytes that begin with two spellings of values of one type begin with one of one value
pub spellings_agree : (type : FieldType) (v w : FieldValue) (p q x y : List ℕ) → Spells type v p → Spells type w q
    → p ++ x ≡ q ++ y → (v ≡ w) × (p ≡ q) × (x ≡ y)
spellings_agree type v w p q x y first second e =
    let sizes : length p ≡ length q = sym (size-spelled type v p x first) ∙ ap (size type) e ∙ size-spelled type w q y second in
    let values : v ≡ w = sym (value_at-spelled type v p x first) ∙ ap (value_at type) e ∙ value_at-spelled type w q y second in
    let parts = fronts_agree p q x y sizes e in
    (values, parts.0, parts.1)

-- what is written is a spelling
truth_form : (b : Bool) → SpellsTruth (Truth b) (spelled_boolean b)
truth_form false = record { byte = 0; is_byte = omega arith; alone = refl; lowest_bit = refl }
truth_form true = record { byte = 1; is_byte = omega arith; alone = refl; lowest_bit = refl }

pub written_spells : (type : FieldType) (value : FieldValue) → Admits type value → Spells type value (spelling type value)
written_spells BOOL (Truth b) fits = record { admits = fits; form = truth_form b }
written_spells BOOL value fits = absurd fits
written_spells type value fits = record { admits = fits; form = refl }
