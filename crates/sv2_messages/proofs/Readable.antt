-- Bytes without a defect at their front begin with a spelling.
use Rattle.std.proofs.Common.{◌≡◌, ◌==◌, ℕ, zero, suc, ◌+◌, ◌*◌, ◌%◌, ◌≤◌, true, false, None, Some, List, [], ◌∷◌, ◌++◌, length, take, drop, refl, sym, ap, ◌∙◌, arith, inl, inr}
use Rattle.std.proofs.lemmas.Bool.{cases_lt, lt-ltb, le-ltb}
use Rattle.std.proofs.lemmas.List.{length-drop, length-take-le}
use Rattle.std.proofs.lemmas.Str.{IsUtf8-from_is_utf8}
use Rattle.std.proofs.Math.Seq.{take-add}
use Rattle.std.specs.List.{flat_map, AllByRecursion}
use Rattle.std.specs.Simd.{first_chunks}
use Rattle.std.specs.Str.{IsUtf8, is_utf8}
use Rattle.sv2_types.specs.declared.error.ReadError.TheVariants.{Short, LengthTooGreat, NotUtf8, CountTooGreat}
use Rattle.sv2_types.specs.Spelling.{spelled_u8, spelled_u16, spelled_u24, spelled_u32}
use Rattle.sv2_types.specs.Fields.{FieldType, U8, U16, U24, U32, U64, UINT256, BOOL, F32, STR0_255, B0_255, B0_32, B0_64K, B0_16M, OPTION_U32, SEQ0_255_U256, SEQ0_64K_U256, SEQ0_64K_U16, SEQ0_64K_B0_16M, Truth, Spells}
use Rattle.sv2_types.specs.Reading.{said, size, value_at, defect, short_defect, text_defect, numbers_at, parts_size}
use Rattle.sv2_types.proofs.Items.{IsBytes, length-numbers_at, numbers_at-fits, length-parts_at, parts_at-fits, parts_lie}
use Rattle.sv2_messages.proofs.Numbers.{IsBytes-drop, spelled_u8-said, said_u8-below, spelled_u16-said, said_u16-below, spelled_u24-said, said_u24-below, spelled_u32-said, said_u32-below, spelled_u64-said, said_u64-below}

-- a value lies at the front
pub record Lies (type : FieldType) (rest : List ℕ) : Type 0 where
  pub within : size type rest ≤ length rest
  pub spells : Spells type (value_at type rest) (take (size type rest) rest)

-- what isn't missing is there
there : (needed : ℕ) (rest : List ℕ) → short_defect needed rest ≡ None → needed ≤ length rest
there needed rest none =
    elim (cases_lt (length rest) needed) [
      | inl lt ↦ (let some : short_defect needed rest ≡ Some Short = rw (lt-ltb (length rest) needed lt) refl in absurd cc)
      | inr le ↦ le
    ]

-- content behind its length
length-content : (k : ℕ) (rest : List ℕ) (n : ℕ) → k + n ≤ length rest → length (take n (drop k rest)) ≡ n
length-content k rest n room = length-take-le n (drop k rest) (omega (arith, length-drop k rest))

-- the content is spelled by the bytes of its length and its own
front : (k : ℕ) (spelled : ℕ → List ℕ) (rest : List ℕ) (n : ℕ) (content : List ℕ) (count size : ℕ) → spelled n ≡ take k rest → count ≡ n
    → content ≡ take size (drop k rest) → spelled count ++ content ≡ take (k + size) rest
front k spelled rest n content count size says counted is =
    ap (λ (m : ℕ). spelled m ++ content) counted ∙ ap (λ (xs : List ℕ). xs ++ content) says ∙ ap (λ (xs : List ℕ). take k rest ++ xs) is ∙ sym (take-add k size rest)

-- hashes that lie within the bytes are spelled by their front
hashes_lie : (count : ℕ) (bytes : List ℕ) → 32 * count ≤ length bytes → flat_map (λ item. item) (first_chunks 32 count bytes) ≡ take (32 * count) bytes
hashes_lie zero bytes within = refl
hashes_lie (suc count) bytes within =
    let behind = hashes_lie count (drop 32 bytes) (omega (arith, length-drop 32 bytes)) in
    let sum : 32 * suc count ≡ 32 + 32 * count = omega arith in
    rw sum (ap (λ (xs : List ℕ). take 32 bytes ++ xs) behind ∙ sym (take-add 32 (32 * count) bytes))

hashes_fit : (count : ℕ) (bytes : List ℕ) → 32 * count ≤ length bytes → AllByRecursion (λ item. length item ≡ 32) (first_chunks 32 count bytes)
hashes_fit zero bytes within = tt
hashes_fit (suc count) bytes within =
    (length-take-le 32 bytes (omega arith), hashes_fit count (drop 32 bytes) (omega (arith, length-drop 32 bytes)))

length-hashes : (count : ℕ) (bytes : List ℕ) → length (first_chunks 32 count bytes) ≡ count
length-hashes zero bytes = refl
length-hashes (suc count) bytes = ap (λ n. suc n) (length-hashes count (drop 32 bytes))

-- and numbers
numbers_lie : (count : ℕ) (bytes : List ℕ) → IsBytes bytes → 2 * count ≤ length bytes → flat_map spelled_u16 (numbers_at count bytes) ≡ take (2 * count) bytes
numbers_lie zero bytes fits within = refl
numbers_lie (suc count) bytes fits within =
    let behind = numbers_lie count (drop 2 bytes) (IsBytes-drop 2 bytes fits) (omega (arith, length-drop 2 bytes)) in
    let sum : 2 * suc count ≡ 2 + 2 * count = omega arith in
    rw sum (ap (λ (xs : List ℕ). spelled_u16 (said 2 bytes) ++ xs) behind
    ∙ ap (λ (xs : List ℕ). xs ++ take (2 * count) (drop 2 bytes)) (spelled_u16-said bytes fits (omega arith)) ∙ sym (take-add 2 (2 * count) bytes))

-- a byte is a truth
truth_lies : (rest : List ℕ) → IsBytes rest → 1 ≤ length rest → Lies BOOL rest
truth_lies [] fits long = absurd (omega arith)
truth_lies (byte ∷ rest) fits long = record {
  within = long;
  spells = record {
    admits = tt;
    form = record {
      byte = byte;
      is_byte = fits 0;
      alone = refl;
      lowest_bit = ap (λ n. Truth (n % 2 == 1)) (omega arith);
    };
  };
}

-- an optional number
none_lies : (rest : List ℕ) → IsBytes rest → 1 ≤ length rest → said 1 rest ≡ 0 → Lies OPTION_U32 rest
none_lies rest fits long zero_said = record {
  within = rw zero_said long;
  spells = record {
    admits = rw zero_said tt;
    form = rw zero_said (sym (spelled_u8-said rest fits long) ∙ ap spelled_u8 zero_said);
  };
}

some_lies : (rest : List ℕ) → IsBytes rest → 5 ≤ length rest → said 1 rest ≡ 1 → Lies OPTION_U32 rest
some_lies rest fits long one_said =
    let behind = IsBytes-drop 1 rest fits in
    let room : 4 ≤ length (drop 1 rest) = omega (arith, length-drop 1 rest) in
    let head : spelled_u8 1 ≡ take 1 rest = ap spelled_u8 (sym one_said) ∙ spelled_u8-said rest fits (omega arith) in
    let body : spelled_u32 (said 4 (drop 1 rest)) ≡ take 4 (drop 1 rest) = spelled_u32-said (drop 1 rest) behind room in
    record {
      within = rw one_said long;
      spells = record {
        admits = rw one_said (said_u32-below (drop 1 rest) behind room);
        form = rw one_said (take-add 1 4 rest ∙ ap (λ (xs : List ℕ). xs ++ take 4 (drop 1 rest)) (sym head) ∙ ap (λ (xs : List ℕ). spelled_u8 1 ++ xs) (sym body));
      };
    }

perhaps_lies : (rest : List ℕ) → IsBytes rest → defect OPTION_U32 rest ≡ None → Lies OPTION_U32 rest
perhaps_lies rest fits none =
    elim (cases_lt 1 (said 1 rest)) [
      | inl more ↦ (let some : defect OPTION_U32 rest ≡ Some CountTooGreat = rw (lt-ltb 1 (said 1 rest) more) refl in absurd cc)
      | inr few ↦
          (let room : 1 + 4 * said 1 rest ≤ length rest = there (1 + 4 * said 1 rest) rest (sym (rw (le-ltb 1 (said 1 rest) few) refl) ∙ none) in
          elim (cases_lt (said 1 rest) 1) [
            | inl lt ↦ none_lies rest fits (omega arith) (omega arith)
            | inr one ↦ some_lies rest fits (omega arith) (omega arith)
          ])
    ]

-- bytes behind their length
content_lies : (rest : List ℕ) → IsBytes rest → 1 + said 1 rest ≤ length rest → Lies B0_255 rest
content_lies rest fits room =
    let len = length-content 1 rest (said 1 rest) room in
    record {
      within = room;
      spells = record {
        admits = omega (arith, len, said_u8-below rest fits);
        form = sym (front 1 spelled_u8 rest (said 1 rest) _ _ (said 1 rest) (spelled_u8-said rest fits (omega arith)) len refl);
      };
    }

short_lies : (rest : List ℕ) → IsBytes rest → defect B0_32 rest ≡ None → Lies B0_32 rest
short_lies rest fits none =
    elim (cases_lt 32 (said 1 rest)) [
      | inl more ↦ (let some : defect B0_32 rest ≡ Some LengthTooGreat = rw (lt-ltb 32 (said 1 rest) more) refl in absurd cc)
      | inr few ↦
          (let room : 1 + said 1 rest ≤ length rest = there (1 + said 1 rest) rest (sym (rw (le-ltb 32 (said 1 rest) few) refl) ∙ none) in
          let content = content_lies rest fits room in
          record { within = room; spells = record { admits = omega (arith, length-content 1 rest (said 1 rest) room); form = content.spells.form } })
    ]

is_text : (content : List ℕ) → text_defect content ≡ None → IsUtf8 content
is_text content none =
    elim (is_utf8 content) as (λ b. is_utf8 content ≡ b → IsUtf8 content) [
      | true ↦ λ e. IsUtf8-from_is_utf8 content e
      | false ↦ λ e. (let some : text_defect content ≡ Some NotUtf8 = rw e refl in absurd cc)
    ] refl

text_lies : (rest : List ℕ) → IsBytes rest → defect STR0_255 rest ≡ None → Lies STR0_255 rest
text_lies rest fits none =
    elim (cases_lt (length rest) (1 + said 1 rest)) [
      | inl lt ↦ (let some : defect STR0_255 rest ≡ Some Short = rw (lt-ltb (length rest) (1 + said 1 rest) lt) refl in absurd cc)
      | inr room ↦
          (let text : IsUtf8 (take (said 1 rest) (drop 1 rest)) = is_text _ (sym (rw (le-ltb (length rest) (1 + said 1 rest) room) refl) ∙ none) in
          let content = content_lies rest fits room in
          record { within = room; spells = record { admits = (content.spells.admits, text); form = content.spells.form } })
    ]

long_lies : (rest : List ℕ) → IsBytes rest → 2 + said 2 rest ≤ length rest → Lies B0_64K rest
long_lies rest fits room =
    let len = length-content 2 rest (said 2 rest) room in
    record {
      within = room;
      spells = record {
        admits = omega (arith, len, said_u16-below rest fits);
        form = sym (front 2 spelled_u16 rest (said 2 rest) _ _ (said 2 rest) (spelled_u16-said rest fits (omega arith)) len refl);
      };
    }

longest_lies : (rest : List ℕ) → IsBytes rest → 3 + said 3 rest ≤ length rest → Lies B0_16M rest
longest_lies rest fits room =
    let len = length-content 3 rest (said 3 rest) room in
    record {
      within = room;
      spells = record {
        admits = omega (arith, len, said_u24-below rest fits);
        form = sym (front 3 spelled_u24 rest (said 3 rest) _ _ (said 3 rest) (spelled_u24-said rest fits (omega arith)) len refl);
      };
    }

-- sequences behind their count
path_lies : (rest : List ℕ) → IsBytes rest → 1 + 32 * said 1 rest ≤ length rest → Lies SEQ0_255_U256 rest
path_lies rest fits room =
    let within : 32 * said 1 rest ≤ length (drop 1 rest) = omega (arith, length-drop 1 rest) in
    let len = length-hashes (said 1 rest) (drop 1 rest) in
    record {
      within = room;
      spells = record {
        admits = (omega (arith, len, said_u8-below rest fits), hashes_fit (said 1 rest) (drop 1 rest) within);
        form = sym (front 1 spelled_u8 rest (said 1 rest) _ _ (32 * said 1 rest) (spelled_u8-said rest fits (omega arith)) len (hashes_lie (said 1 rest) (drop 1 rest) within));
      };
    }

list_lies : (rest : List ℕ) → IsBytes rest → 2 + 32 * said 2 rest ≤ length rest → Lies SEQ0_64K_U256 rest
list_lies rest fits room =
    let within : 32 * said 2 rest ≤ length (drop 2 rest) = omega (arith, length-drop 2 rest) in
    let len = length-hashes (said 2 rest) (drop 2 rest) in
    record {
      within = room;
      spells = record {
        admits = (omega (arith, len, said_u16-below rest fits), hashes_fit (said 2 rest) (drop 2 rest) within);
        form = sym (front 2 spelled_u16 rest (said 2 rest) _ _ (32 * said 2 rest) (spelled_u16-said rest fits (omega arith)) len (hashes_lie (said 2 rest) (drop 2 rest) within));
      };
    }

places_lie : (rest : List ℕ) → IsBytes rest → 2 + 2 * said 2 rest ≤ length rest → Lies SEQ0_64K_U16 rest
places_lie rest fits room =
    let behind = IsBytes-drop 2 rest fits in
    let within : 2 * said 2 rest ≤ length (drop 2 rest) = omega (arith, length-drop 2 rest) in
    let len = length-numbers_at (said 2 rest) (drop 2 rest) in
    record {
      within = room;
      spells = record {
        admits = (omega (arith, len, said_u16-below rest fits), numbers_at-fits (said 2 rest) (drop 2 rest) behind);
        form = sym (front 2 spelled_u16 rest (said 2 rest) _ _ (2 * said 2 rest) (spelled_u16-said rest fits (omega arith)) len (numbers_lie (said 2 rest) (drop 2 rest) behind within));
      };
    }

parts_lie_there : (rest : List ℕ) → IsBytes rest → 2 + parts_size (said 2 rest) (drop 2 rest) ≤ length rest → Lies SEQ0_64K_B0_16M rest
parts_lie_there rest fits room =
    let behind = IsBytes-drop 2 rest fits in
    let within : parts_size (said 2 rest) (drop 2 rest) ≤ length (drop 2 rest) = omega (arith, length-drop 2 rest) in
    let len = length-parts_at (said 2 rest) (drop 2 rest) in
    record {
      within = room;
      spells = record {
        admits = (omega (arith, len, said_u16-below rest fits), parts_at-fits (said 2 rest) (drop 2 rest) behind);
        form = sym (front 2 spelled_u16 rest (said 2 rest) _ _ _ (spelled_u16-said rest fits (omega arith)) len (parts_lie (said 2 rest) (drop 2 rest) behind within));
      };
    }

-- whatever has no defect lies there
pub lies : (type : FieldType) (rest : List ℕ) → IsBytes rest → defect type rest ≡ None → Lies type rest
lies U8 rest fits none =
    let room = there 1 rest none in
    record { within = room; spells = record { admits = said_u8-below rest fits; form = sym (spelled_u8-said rest fits room) } }
lies U16 rest fits none =
    let room = there 2 rest none in
    record { within = room; spells = record { admits = said_u16-below rest fits; form = sym (spelled_u16-said rest fits room) } }
lies U24 rest fits none =
    let room = there 3 rest none in
    record { within = room; spells = record { admits = said_u24-below rest fits; form = sym (spelled_u24-said rest fits room) } }
lies U32 rest fits none =
    let room = there 4 rest none in
    record { within = room; spells = record { admits = said_u32-below rest fits room; form = sym (spelled_u32-said rest fits room) } }
lies U64 rest fits none =
    let room = there 8 rest none in
    record { within = room; spells = record { admits = said_u64-below rest fits room; form = sym (spelled_u64-said rest fits room) } }
lies UINT256 rest fits none =
    let room = there 32 rest none in
    record { within = room; spells = record { admits = length-take-le 32 rest room; form = refl } }
lies BOOL rest fits none = truth_lies rest fits (there 1 rest none)
lies F32 rest fits none =
    let room = there 4 rest none in
    record { within = room; spells = record { admits = length-take-le 4 rest room; form = refl } }
lies STR0_255 rest fits none = text_lies rest fits none
lies B0_255 rest fits none = content_lies rest fits (there (1 + said 1 rest) rest none)
lies B0_32 rest fits none = short_lies rest fits none
lies B0_64K rest fits none = long_lies rest fits (there (2 + said 2 rest) rest none)
lies B0_16M rest fits none = longest_lies rest fits (there (3 + said 3 rest) rest none)
lies OPTION_U32 rest fits none = perhaps_lies rest fits none
lies SEQ0_255_U256 rest fits none = path_lies rest fits (there (1 + 32 * said 1 rest) rest none)
lies SEQ0_64K_U256 rest fits none = list_lies rest fits (there (2 + 32 * said 2 rest) rest none)
lies SEQ0_64K_U16 rest fits none = places_lie rest fits (there (2 + 2 * said 2 rest) rest none)
lies SEQ0_64K_B0_16M rest fits none = parts_lie_there rest fits (there (2 + parts_size (said 2 rest) (drop 2 rest)) rest none)
