-- Fields that are spelled one after the other are read back, all at once.
use Rattle.std.proofs.Common.{◌≡◌, ℕ, List, [], ◌∷◌, ◌++◌, refl, ap, ap₂, sym, ◌∙◌, append_assoc}
use Rattle.sv2_types.specs.Fields.{Admits, FieldType, FieldValue, spelling}
use Rattle.sv2_types.proofs.Laws.{spellings_agree, written_spells}

-- the spellings of fields, and what stands behind them
abbrev pub written : List FieldType → List FieldValue → List ℕ → List ℕ
written [] values behind = behind
written (type ∷ types) [] behind = behind
written (type ∷ types) (value ∷ values) behind = spelling type value ++ written types values behind

-- the types have these values
abbrev pub AreOf : List FieldType → List FieldValue → Type 0
AreOf [] [] = Unit {0}
AreOf [] (value ∷ values) = ⊥
AreOf (type ∷ types) [] = ⊥
AreOf (type ∷ types) (value ∷ values) = Admits type value × AreOf types values

-- fields of the same types that are spelled alike are the same, and so is what stands behind them
pub fields_agree : (types : List FieldType) (vs ws : List FieldValue) (x y : List ℕ) → AreOf types vs → AreOf types ws
    → written types vs x ≡ written types ws y → (vs ≡ ws) × (x ≡ y)
fields_agree [] [] [] x y a b e = (refl, e)
fields_agree [] [] (w ∷ ws) x y a b e = absurd b
fields_agree [] (v ∷ vs) ws x y a b e = absurd a
fields_agree (type ∷ types) [] ws x y a b e = absurd a
fields_agree (type ∷ types) (v ∷ vs) [] x y a b e = absurd b
fields_agree (type ∷ types) (v ∷ vs) (w ∷ ws) x y a b e =
    let first : (v ≡ w) × (spelling type v ≡ spelling type w) × (written types vs x ≡ written types ws y) =
    spellings_agree type v w (spelling type v) (spelling type w) (written types vs x) (written types ws y)
    (written_spells type v a.0) (written_spells type w b.0) e in
    let more : (vs ≡ ws) × (x ≡ y) = fields_agree types vs ws x y a.1 b.1 first.2 in
    (ap₂ (λ value values. value ∷ values) first.0 more.0, more.1)

-- fields that are joined one by one behind the first bytes
abbrev pub written_after : List ℕ → List FieldType → List FieldValue → List ℕ
written_after front [] values = front
written_after front (type ∷ types) [] = front
written_after front (type ∷ types) (value ∷ values) = written_after (front ++ spelling type value) types values

pub written_after-is : (front : List ℕ) (types : List FieldType) (values : List FieldValue) (behind : List ℕ)
    → written_after front types values ++ behind ≡ front ++ written types values behind
written_after-is front [] values behind = refl
written_after-is front (type ∷ types) [] behind = refl
written_after-is front (type ∷ types) (value ∷ values) behind =
    written_after-is (front ++ spelling type value) types values behind ∙ append_assoc front (spelling type value) (written types values behind)

-- bytes that are the same have the same fields
pub same_fields : (types : List FieldType) (vs ws : List FieldValue) (one other : List ℕ) → AreOf types vs → AreOf types ws
    → one ++ [] ≡ written types vs [] → other ++ [] ≡ written types ws [] → one ≡ other → vs ≡ ws
same_fields types vs ws one other a b p q e = (fields_agree types vs ws [] [] a b (sym p ∙ ap (λ bytes. bytes ++ []) e ∙ q)).0
