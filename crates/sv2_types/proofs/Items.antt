-- Items that lie one after the other.
use Rattle.std.proofs.Common.{◌≡◌, ℕ, zero, suc, ◌+◌, ◌-◌, ◌*◌, ◌^◌, ◌<◌, ◌≤◌, ◌/◌, ◌%◌, Some, get_or, List, [], ◌∷◌, ◌++◌, length, take, drop, refl, sym, ap, ◌∙◌, arith}
use Rattle.std.proofs.lemmas.List.{append_assoc, append-nil, length-append, length-drop, length-take, length-take-le, drop-drop, get_or-drop, nil_from_length, take-append-drop, take_at, drop_at}
use Rattle.std.proofs.Math.Seq.{take-add}
use Rattle.std.specs.List.{flat_map, slice_get, AllByRecursion}
use Rattle.std.specs.Simd.{first_chunks}
use Rattle.sv2_types.specs.Spelling.{spelled_u16, spelled_u24, spelled_b16m}
use Rattle.sv2_types.specs.Reading.{said, numbers_at, parts_at, parts_size, SpellsParts}
use Rattle.sv2_types.proofs.Numbers.{said-u16, said-u24}

-- items of 32 bytes are found again
pub first_chunks-items : (items : List (List ℕ)) (rest : List ℕ) → AllByRecursion (λ item. length item ≡ 32) items
    → first_chunks 32 (length items) (flat_map (λ item. item) items ++ rest) ≡ items
first_chunks-items [] rest all = refl
first_chunks-items (item ∷ items) rest all =
    let body : List ℕ = flat_map (λ item. item) items in
    let e : (item ++ body) ++ rest ≡ item ++ (body ++ rest) = append_assoc item body rest in
    rw e (rw (take_at item (body ++ rest) 32 all.0) (rw (drop_at item (body ++ rest) 32 all.0) (ap (λ xs. item ∷ xs) (first_chunks-items items rest all.1))))

-- how long they are
pub length-items : (items : List (List ℕ)) → AllByRecursion (λ item. length item ≡ 32) items
    → length (flat_map (λ item. item) items) ≡ 32 * length items
length-items [] all = refl
length-items (item ∷ items) all =
    omega (arith, length-append item (flat_map (λ item. item) items), length-items items all.1, all.0)

-- numbers are found again
pub numbers_at-numbers : (numbers rest : List ℕ) → AllByRecursion (λ n. n < 2 ^ 16) numbers
    → numbers_at (length numbers) (flat_map spelled_u16 numbers ++ rest) ≡ numbers
numbers_at-numbers [] rest all = refl
numbers_at-numbers (n ∷ numbers) rest all =
    rw (said-u16 n (flat_map spelled_u16 numbers ++ rest) all.0) (ap (λ ns. n ∷ ns) (numbers_at-numbers numbers rest all.1))

pub length-numbers : (numbers : List ℕ) → length (flat_map spelled_u16 numbers) ≡ 2 * length numbers
length-numbers [] = refl
length-numbers (n ∷ numbers) = omega (arith, length-numbers numbers)

drop_three : (k a b c : ℕ) (xs : List ℕ) → drop (3 + k) (a ∷ b ∷ c ∷ xs) ≡ drop k xs
drop_three k a b c xs = let e : 3 + k ≡ suc (suc (suc k)) = omega arith in rw e refl

-- the first byte string is found, and what is behind it
first_part : (part more : List ℕ) → length part < 2 ^ 24
    → (said 3 (spelled_b16m part ++ more) ≡ length part) × (take (length part) (drop 3 (spelled_b16m part ++ more)) ≡ part)
    × (drop (3 + length part) (spelled_b16m part ++ more) ≡ more)
first_part part more fits = (
  said-u24 (length part) (part ++ more) fits,
  take_at part more (length part) refl,
  drop_three (length part) _ _ _ (part ++ more) ∙ drop_at part more (length part) refl,
)

-- byte strings are found again
pub parts_at-parts : (parts : List (List ℕ)) (rest : List ℕ) → AllByRecursion (λ part. length part < 2 ^ 24) parts
    → parts_at (length parts) (flat_map spelled_b16m parts ++ rest) ≡ parts
parts_at-parts [] rest all = refl
parts_at-parts (part ∷ parts) rest all =
    let more : List ℕ = flat_map spelled_b16m parts ++ rest in
    let e : (part ++ flat_map spelled_b16m parts) ++ rest ≡ part ++ more = append_assoc part (flat_map spelled_b16m parts) rest in
    let first = first_part part more all.0 in
    rw e (rw first.0 (rw first.1 (rw first.2 (ap (λ ps. part ∷ ps) (parts_at-parts parts rest all.1)))))

-- how long they are
pub parts_size-parts : (parts : List (List ℕ)) (rest : List ℕ) → AllByRecursion (λ part. length part < 2 ^ 24) parts
    → parts_size (length parts) (flat_map spelled_b16m parts ++ rest) ≡ length (flat_map spelled_b16m parts)
parts_size-parts [] rest all = refl
parts_size-parts (part ∷ parts) rest all =
    let more : List ℕ = flat_map spelled_b16m parts ++ rest in
    let e : (part ++ flat_map spelled_b16m parts) ++ rest ≡ part ++ more = append_assoc part (flat_map spelled_b16m parts) rest in
    let first = first_part part more all.0 in
    rw e (rw first.0 (rw first.2 (rw (parts_size-parts parts rest all.1) (omega (arith, length-append part (flat_map spelled_b16m parts))))))

-- how many there are
pub length-numbers_at : (count : ℕ) (rest : List ℕ) → length (numbers_at count rest) ≡ count
length-numbers_at zero rest = refl
length-numbers_at (suc count) rest = ap (λ n. suc n) (length-numbers_at count (drop 2 rest))

pub length-parts_at : (count : ℕ) (rest : List ℕ) → length (parts_at count rest) ≡ count
length-parts_at zero rest = refl
length-parts_at (suc count) rest = ap (λ n. suc n) (length-parts_at count (drop (3 + said 3 rest) rest))

-- the number at a place
pub slice_get-numbers_at : (count i : ℕ) (rest : List ℕ) → i < count → slice_get (numbers_at count rest) i ≡ Some (said 2 (drop (2 * i) rest))
slice_get-numbers_at zero i rest there = absurd (omega arith)
slice_get-numbers_at (suc count) zero rest there = refl
slice_get-numbers_at (suc count) (suc i) rest there =
    let e : drop (2 * i) (drop 2 rest) ≡ drop (2 * suc i) rest = drop-drop (2 * i) 2 rest ∙ ap (λ n. drop n rest) (omega arith) in
    slice_get-numbers_at count i (drop 2 rest) (omega arith) ∙ ap (λ xs. Some (said 2 xs)) e

-- what is left behind the first byte string of several
pub record IsBehindFirst (count : ℕ) (rest : List ℕ) : Type 0 where
  pub fits : 3 + said 3 rest ≤ length rest
  pub whole : parts_size (count - 1) (drop (3 + said 3 rest) rest) ≡ length (drop (3 + said 3 rest) rest)
  pub parts : parts_at count rest ≡ take (said 3 rest) (drop 3 rest) ∷ parts_at (count - 1) (drop (3 + said 3 rest) rest)

pub behind_first : (count : ℕ) (rest : List ℕ) → 0 < count → parts_size count rest ≡ length rest → IsBehindFirst count rest
behind_first zero rest some whole = absurd (omega arith)
behind_first (suc count) rest some whole =
    let less : suc count - 1 ≡ count = omega arith in
    let after : List ℕ = drop (3 + said 3 rest) rest in
    let split : length after ≡ length rest - (3 + said 3 rest) = length-drop (3 + said 3 rest) rest in
    record {
      fits = omega (arith, whole);
      whole = rw less (omega (arith, whole, split));
      parts = rw less refl;
    }

-- so many byte strings are passed, and this is left
pub record IsBehind (spelled : List ℕ) (count passed : ℕ) (rest : List ℕ) : Type 0 where
  pub parts : parts_at (count - passed) rest ≡ drop passed (parts_at count spelled)
  pub whole : parts_size (count - passed) rest ≡ length rest

pub IsBehind-more : (spelled : List ℕ) (count passed : ℕ) (rest : List ℕ) → passed < count → IsBehind spelled count passed rest
    → IsBehind spelled count (passed + 1) (drop (3 + said 3 rest) rest)
IsBehind-more spelled count passed rest some behind =
    let first = behind_first (count - passed) rest (omega arith) behind.whole in
    let fewer : count - (passed + 1) ≡ count - passed - 1 = omega arith in
    let after : List ℕ = drop (3 + said 3 rest) rest in
    record {
      parts = rw fewer (ap (drop 1) (sym first.parts ∙ behind.parts) ∙ drop-drop 1 passed (parts_at count spelled));
      whole = rw fewer first.whole;
    }

-- so many byte strings lie within the bytes, and take this many
pub record IsCounted (bytes : List ℕ) (count passed size : ℕ) : Type 0 where
  pub within : size ≤ length bytes
  pub sum : size + parts_size (count - passed) (drop size bytes) ≡ parts_size count bytes

-- one more
pub parts_size-more : (count : ℕ) (rest : List ℕ) → 0 < count
    → parts_size count rest ≡ 3 + said 3 rest + parts_size (count - 1) (drop (3 + said 3 rest) rest)
parts_size-more zero rest some = absurd (omega arith)
parts_size-more (suc count) rest some = let less : suc count - 1 ≡ count = omega arith in rw less refl

pub IsCounted-more : (bytes : List ℕ) (count passed size : ℕ) → passed < count → IsCounted bytes count passed size
    → 3 + said 3 (drop size bytes) ≤ length (drop size bytes)
    → IsCounted bytes count (passed + 1) (size + (3 + said 3 (drop size bytes)))
IsCounted-more bytes count passed size some counted fits =
    let fewer : count - (passed + 1) ≡ count - passed - 1 = omega arith in
    let more = parts_size-more (count - passed) (drop size bytes) (omega arith) in
    let at : drop (3 + said 3 (drop size bytes)) (drop size bytes) ≡ drop (size + (3 + said 3 (drop size bytes))) bytes =
    drop-drop (3 + said 3 (drop size bytes)) size bytes in
    record {
      within = omega (arith, length-drop size bytes, counted.within);
      sum = rw (fewer, ← at) (omega (arith, more, counted.sum));
    }

-- the item at a place is the first of what is left there
pub slice_get-drop : (items : List (List ℕ)) (i : ℕ) → slice_get items i ≡ slice_get (drop i items) 0
slice_get-drop [] zero = refl
slice_get-drop [] (suc i) = refl
slice_get-drop (item ∷ items) zero = refl
slice_get-drop (item ∷ items) (suc i) = slice_get-drop items i

-- each is a byte
abbrev pub IsBytes : List ℕ → Type 0
IsBytes bytes = (i : ℕ) → get_or bytes i 0 < 256

drop-IsBytes : (n : ℕ) (bytes : List ℕ) → IsBytes bytes → IsBytes (drop n bytes)
drop-IsBytes n bytes fits i = rw get_or-drop (fits (n + i))

-- what two and three bytes say is spelled by them
spelled_u16-said : (bytes : List ℕ) → IsBytes bytes → 2 ≤ length bytes → spelled_u16 (said 2 bytes) ≡ take 2 bytes
spelled_u16-said [] fits long = absurd (omega arith)
spelled_u16-said (a ∷ []) fits long = absurd (omega arith)
spelled_u16-said (a ∷ b ∷ bytes) fits long =
    let low : (a + 256 * (b + 256 * 0)) % 256 ≡ a = omega (arith, fits 0, fits 1) in
    let high : (a + 256 * (b + 256 * 0)) / 256 % 256 ≡ b = omega (arith, fits 0, fits 1) in
    cc

spelled_u24-said : (bytes : List ℕ) → IsBytes bytes → 3 ≤ length bytes → spelled_u24 (said 3 bytes) ≡ take 3 bytes
spelled_u24-said [] fits long = absurd (omega arith)
spelled_u24-said (a ∷ []) fits long = absurd (omega arith)
spelled_u24-said (a ∷ b ∷ []) fits long = absurd (omega arith)
spelled_u24-said (a ∷ b ∷ d ∷ bytes) fits long =
    let low : (a + 256 * (b + 256 * (d + 256 * 0))) % 256 ≡ a = omega (arith, fits 0, fits 1, fits 2) in
    let middle : (a + 256 * (b + 256 * (d + 256 * 0))) / 256 % 256 ≡ b = omega (arith, fits 0, fits 1, fits 2) in
    let high : (a + 256 * (b + 256 * (d + 256 * 0))) / 65536 % 256 ≡ d = omega (arith, fits 0, fits 1, fits 2) in
    cc

said_u16-below : (bytes : List ℕ) → IsBytes bytes → said 2 bytes < 2 ^ 16
said_u16-below [] fits = omega arith
said_u16-below (a ∷ []) fits = omega (arith, fits 0)
said_u16-below (a ∷ b ∷ bytes) fits = omega (arith, fits 0, fits 1)

said_u24-below : (bytes : List ℕ) → IsBytes bytes → said 3 bytes < 2 ^ 24
said_u24-below [] fits = omega arith
said_u24-below (a ∷ []) fits = omega (arith, fits 0)
said_u24-below (a ∷ b ∷ []) fits = omega (arith, fits 0, fits 1)
said_u24-below (a ∷ b ∷ d ∷ bytes) fits = omega (arith, fits 0, fits 1, fits 2)

-- bytes of an even length spell the numbers that lie in them
pub flat_map-numbers_at : (count : ℕ) (bytes : List ℕ) → IsBytes bytes → length bytes ≡ 2 * count
    → flat_map spelled_u16 (numbers_at count bytes) ≡ bytes
flat_map-numbers_at zero bytes fits len = sym (nil_from_length bytes len)
flat_map-numbers_at (suc count) bytes fits len =
    let rest = flat_map-numbers_at count (drop 2 bytes) (drop-IsBytes 2 bytes fits) (omega (arith, length-drop 2 bytes)) in
    ap (λ xs. spelled_u16 (said 2 bytes) ++ xs) rest
    ∙ ap (λ xs. xs ++ drop 2 bytes) (spelled_u16-said bytes fits (omega arith)) ∙ take-append-drop 2 bytes

pub numbers_at-fits : (count : ℕ) (bytes : List ℕ) → IsBytes bytes → AllByRecursion (λ n. n < 2 ^ 16) (numbers_at count bytes)
numbers_at-fits zero bytes fits = tt
numbers_at-fits (suc count) bytes fits = (said_u16-below bytes fits, numbers_at-fits count (drop 2 bytes) (drop-IsBytes 2 bytes fits))

-- chunks of 32 bytes are the bytes
pub flat_map-first_chunks : (count : ℕ) (bytes : List ℕ) → length bytes ≡ 32 * count
    → flat_map (λ item. item) (first_chunks 32 count bytes) ≡ bytes
flat_map-first_chunks zero bytes len = sym (nil_from_length bytes len)
flat_map-first_chunks (suc count) bytes len =
    rw (flat_map-first_chunks count (drop 32 bytes) (omega (arith, length-drop 32 bytes))) (take-append-drop 32 bytes)

pub first_chunks-fit : (count : ℕ) (bytes : List ℕ) → length bytes ≡ 32 * count
    → AllByRecursion (λ item. length item ≡ 32) (first_chunks 32 count bytes)
first_chunks-fit zero bytes len = tt
first_chunks-fit (suc count) bytes len =
    (length-take-le 32 bytes (omega arith), first_chunks-fit count (drop 32 bytes) (omega (arith, length-drop 32 bytes)))

-- the byte strings that lie within the bytes are spelled by their front
pub parts_lie : (count : ℕ) (bytes : List ℕ) → IsBytes bytes → parts_size count bytes ≤ length bytes
    → flat_map spelled_b16m (parts_at count bytes) ≡ take (parts_size count bytes) bytes
parts_lie zero bytes fits within = refl
parts_lie (suc count) bytes fits within =
    let n : ℕ = said 3 bytes in
    let content : List ℕ = take n (drop 3 bytes) in
    let rest : List ℕ = drop (3 + n) bytes in
    let more : ℕ = parts_size count rest in
    let left = length-drop (3 + n) bytes in
    let behind : flat_map spelled_b16m (parts_at count rest) ≡ take more rest =
    parts_lie count rest (drop-IsBytes (3 + n) bytes fits) (omega (arith, within, left)) in
    let len : length content ≡ n = length-take-le n (drop 3 bytes) (omega (arith, length-drop 3 bytes, within)) in
    let front : spelled_u24 (length content) ≡ take 3 bytes =
    ap spelled_u24 len ∙ spelled_u24-said bytes fits (omega (arith, within)) in
    let first : spelled_b16m content ≡ take (3 + n) bytes = ap (λ xs. xs ++ content) front ∙ sym (take-add 3 n bytes) in
    ap (λ xs. spelled_b16m content ++ xs) behind ∙ ap (λ xs. xs ++ take more rest) first ∙ sym (take-add (3 + n) more bytes)

pub parts_at-fits : (count : ℕ) (bytes : List ℕ) → IsBytes bytes → AllByRecursion (λ part. length part < 2 ^ 24) (parts_at count bytes)
parts_at-fits zero bytes fits = tt
parts_at-fits (suc count) bytes fits =
    let short : length (take (said 3 bytes) (drop 3 bytes)) < 2 ^ 24 =
    omega (arith, length-take (said 3 bytes) (drop 3 bytes), said_u24-below bytes fits) in
    (short, parts_at-fits count (drop (3 + said 3 bytes) bytes) (drop-IsBytes (3 + said 3 bytes) bytes fits))

-- so many byte strings that lie within the bytes
pub SpellsParts-front : (count : ℕ) (bytes : List ℕ) → IsBytes bytes → parts_size count bytes ≤ length bytes
    → SpellsParts count (take (parts_size count bytes) bytes)
SpellsParts-front count bytes fits within =
    record {
      parts = parts_at count bytes;
      counted = length-parts_at count bytes;
      fits = parts_at-fits count bytes fits;
      joined = sym (parts_lie count bytes fits within);
    }

-- the byte strings that are found are those that were spelled
pub parts_at-spelled : (count : ℕ) (spelled : List ℕ) (given : SpellsParts count spelled) → parts_at count spelled ≡ given.parts
parts_at-spelled count spelled given =
    let body : List ℕ = flat_map spelled_b16m given.parts in
    let whole : spelled ≡ body ++ [] = given.joined ∙ sym (append-nil body) in
    rw (whole, ← given.counted) (parts_at-parts given.parts [] given.fits)

pub parts_size-spelled : (count : ℕ) (spelled : List ℕ) → SpellsParts count spelled → parts_size count spelled ≡ length spelled
parts_size-spelled count spelled given =
    let body : List ℕ = flat_map spelled_b16m given.parts in
    rw (given.joined, ← given.counted) (ap (parts_size (length given.parts)) (sym (append-nil body)) ∙ parts_size-parts given.parts [] given.fits)

-- what each place of a list of arrays has, all of them have
pub all_from_told : (items : List (List ℕ)) → ((i : ℕ) → i < length items → length (get_or items i []) ≡ 32)
    → AllByRecursion (λ item. length item ≡ 32) items
all_from_told [] told = tt
all_from_told (item ∷ items) told = (told 0 (omega arith), all_from_told items (λ i there. told (suc i) (omega arith)))
