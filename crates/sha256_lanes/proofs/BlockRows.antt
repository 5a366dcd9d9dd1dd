-- Rows of blocks, and texts with twelve bytes in their place.
use Rattle.std.proofs.Common.{◌≡◌, ℕ, zero, suc, ◌+◌, ◌-◌, ◌*◌, ◌/◌, ◌%◌, ◌^◌, ◌<◌, ◌≤◌, List, [], ◌∷◌, ◌++◌, length, take, drop, replicate, refl, sym, ap, ◌∙◌, arith, add-zero, add-one, length-append, length-drop}
use Rattle.std.proofs.lemmas.List.{append_assoc, drop-drop, drop-take, drop_at, length-take-le, take-append-drop, take-append-le, take-take, take_all, take_at}
use Rattle.std.proofs.Math.Seq.{drop-append-add, take-append-add}
use Rattle.std.specs.Int.{w64, to_be_bytes}
use Rattle.sha2.specs.Sha256.{compress, final_hash, hash_after, padding}
use Rattle.sha2.proofs.Absorbing256.{hash_after-append, hash_after_next}

-- blocks behind so many blocks are hashed from the hash value behind those
pub hash_after_behind : (i p q : List ℕ) (k j : ℕ) → length p ≡ k * 64
    → hash_after i (p ++ q) (k + j) ≡ hash_after (hash_after i p k) q j
unfolding hash_after
hash_after_behind i p q k zero long =
    rw (add-zero k) (hash_after-append i p q k (omega arith))
hash_after_behind i p q k (suc j) long =
    let at : k + suc j ≡ k + j + 1 = omega arith in
    let place : (k + j) * 64 ≡ k * 64 + j * 64 = omega arith in
    let rest : drop ((k + j) * 64) (p ++ q) ≡ drop (j * 64) q =
    ap (λ (n : ℕ). drop n (p ++ q)) place ∙ sym (drop-drop (j * 64) (k * 64) (p ++ q))
    ∙ ap (drop (j * 64)) (drop_at p q (k * 64) long) in
    ap (hash_after i (p ++ q)) at ∙ hash_after_next i (p ++ q) (k + j)
    ∙ (λ t. compress (hash_after_behind i p q k j long t) (take 64 (rest t)))

-- two blocks
pub hash_after_two : (h m : List ℕ) → length m ≡ 128
    → compress (compress h (take 64 m)) (drop 64 m) ≡ hash_after h m 2
unfolding hash_after
hash_after_two h m long =
    ap (compress (compress h (take 64 m)))
    (sym (take_all 64 (drop 64 m) (omega (arith, length-drop 64 m))))

-- what stands before a place of the first part, and behind it
pub take-over : (n : ℕ) (xs ys : List ℕ) → length xs ≤ n
    → take n (xs ++ ys) ≡ xs ++ take (n - length xs) ys
take-over n xs ys below =
    let at : n ≡ length xs + (n - length xs) = omega arith in
    ap (λ (k : ℕ). take k (xs ++ ys)) at ∙ take-append-add xs ys (n - length xs)

pub drop-over : (n : ℕ) (xs ys : List ℕ) → length xs ≤ n
    → drop n (xs ++ ys) ≡ drop (n - length xs) ys
drop-over n xs ys below =
    let at : n ≡ length xs + (n - length xs) = omega arith in
    ap (λ (k : ℕ). drop k (xs ++ ys)) at ∙ drop-append-add xs ys (n - length xs)

-- what stands in front of the twelve bytes, and they
pub length-head : (text middle : List ℕ) (at : ℕ) → at ≤ length text → length middle ≡ 12
    → length (take at text ++ middle) ≡ at + 12
length-head text middle at fits long =
    omega (arith, length-append (take at text) middle, length-take-le at text fits)

-- the first two blocks of a text with twelve bytes in them
pub take-placed : (text middle : List ℕ) (at : ℕ) → at + 12 ≤ 128 → 128 ≤ length text
    → length middle ≡ 12
    → take at (take 128 text) ++ middle ++ drop (at + 12) (take 128 text)
    ≡ take 128 (take at text ++ middle ++ drop (at + 12) text)
take-placed text middle at within two long =
    let head = take at text ++ middle in
    let head_long : length head ≡ at + 12 = length-head text middle at (omega arith) long in
    let all : at + 12 + (128 - (at + 12)) ≡ 128 = omega arith in
    let left : 128 - (at + 12) ≡ 128 - length head = omega arith in
    (λ t. take-take at 128 text (omega arith) t ++ middle
    ++ drop (at + 12) (take (sym all t) text))
    ∙ ap (λ rest. head ++ rest) (drop-take (at + 12) (128 - (at + 12)) text
    ∙ ap (λ (k : ℕ). take k (drop (at + 12) text)) left)
    ∙ sym (take-over 128 head (drop (at + 12) text) (omega arith))

-- its other blocks are those of the text
pub drop-placed : (text middle : List ℕ) (at : ℕ) → at + 12 ≤ 128 → 128 ≤ length text
    → length middle ≡ 12
    → drop 128 (take at text ++ middle ++ drop (at + 12) text) ≡ drop 128 text
drop-placed text middle at within two long =
    let head = take at text ++ middle in
    let head_long : length head ≡ at + 12 = length-head text middle at (omega arith) long in
    let left : at + 12 + (128 - length head) ≡ 128 = omega arith in
    drop-over 128 head (drop (at + 12) text) (omega arith)
    ∙ drop-drop (128 - length head) (at + 12) text
    ∙ ap (λ (k : ℕ). drop k text) left

pub length-placed : (text middle : List ℕ) (at : ℕ) → at + 12 ≤ length text → length middle ≡ 12
    → length (take at text ++ middle ++ drop (at + 12) text) ≡ length text
length-placed text middle at fits long =
    omega (
      arith,
      length-head text middle at (omega arith) long,
      length-append (take at text ++ middle) (drop (at + 12) text),
      length-drop (at + 12) text,
    )

-- a whole text is its first two blocks, hashed, and then the others
pub hash_after_text : (h p : List ℕ) → 128 ≤ length p → length p % 64 ≡ 0
    → hash_after h p (length p / 64)
    ≡ hash_after (hash_after h (take 128 p) 2) (drop 128 p) (length (drop 128 p) / 64)
hash_after_text h p two whole =
    let front : length (take 128 p) ≡ 2 * 64 = length-take-le 128 p two in
    let count : length p / 64 ≡ 2 + length (drop 128 p) / 64 = omega (arith, length-drop 128 p) in
    ap (λ (m : List ℕ). hash_after h m (length p / 64)) (sym (take-append-drop 128 p))
    ∙ ap (hash_after h (take 128 p ++ drop 128 p)) count
    ∙ hash_after_behind h (take 128 p) (drop 128 p) 2 (length (drop 128 p) / 64) front

-- a length is padded as the number that its type has of it
pub padding_of : (n t : ℕ) → t ≡ n % 2 ^ 64 → padding t ≡ padding n
padding_of n t is =
    let zeros : (119 - t % 64) % 64 ≡ (119 - n % 64) % 64 = omega arith in
    let bits : t * 8 % 2 ^ 64 ≡ n * 8 % 2 ^ 64 = omega arith in
    λ i. 0x80 ∷ replicate (zeros i) 0 ++ to_be_bytes w64 (bits i)

-- a message is hashed from the hash value behind its first blocks
pub hash_around : (i before after middle : List ℕ) (k : ℕ) → k * 64 ≤ length before
    → final_hash i (before ++ middle ++ after)
    ≡ hash_after (hash_after i (take (k * 64) before) k)
    (drop (k * 64) before ++ middle ++ (after ++ padding (length (before ++ middle ++ after))))
    (length (drop (k * 64) before ++ middle
    ++ (after ++ padding (length (before ++ middle ++ after)))) / 64)
hash_around i before after middle k fits =
    let pad = padding (length (before ++ middle ++ after)) in
    let blocks = take (k * 64) before in
    let head = drop (k * 64) before in
    let rest = head ++ middle ++ (after ++ pad) in
    let whole : before ++ middle ++ after ++ pad ≡ blocks ++ rest =
    ap (λ (b : List ℕ). b ++ middle ++ after ++ pad) (sym (take-append-drop (k * 64) before))
    ∙ append_assoc (blocks ++ head ++ middle) after pad
    ∙ ap (λ (b : List ℕ). b ++ (after ++ pad)) (append_assoc blocks head middle)
    ∙ append_assoc blocks (head ++ middle) (after ++ pad) in
    let long : length blocks ≡ k * 64 = length-take-le (k * 64) before fits in
    let count : length (blocks ++ rest) / 64 ≡ k + length rest / 64 =
    omega (arith, long, length-append blocks rest) in
    ap (λ (p : List ℕ). hash_after i p (length p / 64)) whole
    ∙ ap (hash_after i (blocks ++ rest)) count
    ∙ hash_after_behind i blocks rest k (length rest / 64) long

-- a text of zeros with twelve bytes in their place
pub placed_in : (head after pad middle text : List ℕ)
    → text ≡ head ++ replicate 12 0 ++ after ++ pad
    → take (length head) text ++ middle ++ drop (length head + 12) text
    ≡ head ++ middle ++ (after ++ pad)
placed_in head after pad middle text is =
    let rest = after ++ pad in
    let long : length (head ++ replicate 12 0) ≡ length head + 12 =
    length-append head (replicate 12 0) in
    let apart : text ≡ head ++ replicate 12 0 ++ rest =
    is ∙ append_assoc (head ++ replicate 12 0) after pad in
    let front : take (length head) text ≡ head =
    ap (take (length head)) (apart ∙ append_assoc head (replicate 12 0) rest)
    ∙ take_at head (replicate 12 0 ++ rest) (length head) refl in
    let behind : drop (length head + 12) text ≡ rest =
    ap (drop (length head + 12)) apart
    ∙ drop_at (head ++ replicate 12 0) rest (length head + 12) long in
    λ t. front t ++ middle ++ behind t
