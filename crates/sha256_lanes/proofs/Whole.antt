-- The hash values of messages of 32, 64 and 80 bytes, block by block.
use Rattle.std.proofs.Common.{◌≡◌, ℕ, ◌/◌, ◌<◌, List, [], ◌∷◌, ◌++◌, length, map, get_or, take, drop, refl, ap, ◌∙◌, arith, length-append}
use Rattle.std.proofs.lemmas.List.{append_assoc, take_all, take_at, drop_at}
use Rattle.sha2.specs.Sha256.{compress, digest_bytes, final_hash, hash_after, initial_hash_256, padding, sha256}
use Rattle.sha256_lanes.specs.Lanes.{lane}

one_block : (h p : List ℕ) → length p ≡ 64 → hash_after h p (length p / 64) ≡ compress h p
unfolding hash_after
one_block h p long =
    let count : length p / 64 ≡ 1 = omega arith in
    ap (hash_after h p) count ∙ ap (compress h) (take_all 64 p (omega arith))

two_blocks : (h p q : List ℕ) → length p ≡ 64 → length q ≡ 64
    → hash_after h (p ++ q) (length (p ++ q) / 64) ≡ compress (compress h p) q
unfolding hash_after
two_blocks h p q p_long q_long =
    let long : length (p ++ q) ≡ 128 = omega (arith, length-append p q) in
    let count : length (p ++ q) / 64 ≡ 2 = omega arith in
    let first : take 64 (p ++ q) ≡ p = take_at p q 64 p_long in
    let rest : drop 64 (p ++ q) ≡ q = drop_at p q 64 p_long in
    ap (hash_after h (p ++ q)) count
    ∙ (λ i. compress (compress h (first i)) (take 64 (rest i)))
    ∙ ap (compress (compress h p)) (take_all 64 q (omega arith))

-- the padding is that of the length
padded : (h m : List ℕ) (n : ℕ) → length m ≡ n
    → final_hash h m ≡ hash_after h (m ++ padding n) (length (m ++ padding n) / 64)
padded h m n long = ap (λ (k : ℕ). hash_after h (m ++ padding k) (length (m ++ padding k) / 64)) long

pub final_hash_32 : (h m : List ℕ) → length m ≡ 32
    → final_hash h m ≡ compress h (m ++ padding 32)
final_hash_32 h m long =
    let pad : length (padding 32) ≡ 32 = refl in
    padded h m 32 long
    ∙ one_block h (m ++ padding 32) (omega (arith, length-append m (padding 32), pad))

pub final_hash_64 : (h m : List ℕ) → length m ≡ 64
    → final_hash h m ≡ compress (compress h m) (padding 64)
final_hash_64 h m long = padded h m 64 long ∙ two_blocks h m (padding 64) long refl

pub final_hash_80 : (h front tail : List ℕ) → length front ≡ 64 → length tail ≡ 16
    → final_hash h (front ++ tail) ≡ compress (compress h front) (tail ++ padding 80)
final_hash_80 h front tail front_long tail_long =
    let pad : length (padding 80) ≡ 48 = refl in
    let long : length (front ++ tail) ≡ 80 = omega (arith, length-append front tail) in
    padded h (front ++ tail) 80 long
    ∙ ap (λ (p : List ℕ). hash_after h p (length p / 64)) (append_assoc front tail (padding 80))
    ∙ two_blocks h front (tail ++ padding 80) front_long
    (omega (arith, length-append tail (padding 80), pad))

-- what is said of the four items of a list is said of the list
pub four_items : (f : List ℕ → List ℕ) (ms : List (List ℕ)) → length ms ≡ 4
    → (f (get_or ms 0 []) ∷ f (get_or ms 1 []) ∷ f (get_or ms 2 []) ∷ f (get_or ms 3 []) ∷ [])
    ≡ map f ms
four_items f [] long = absurd (omega arith)
four_items f (a ∷ []) long = absurd (omega arith)
four_items f (a ∷ b ∷ []) long = absurd (omega arith)
four_items f (a ∷ b ∷ c ∷ []) long = absurd (omega arith)
four_items f (a ∷ b ∷ c ∷ d ∷ []) long = refl
four_items f (a ∷ b ∷ c ∷ d ∷ e ∷ ms) long = absurd (omega arith)

-- the digests of hash values, lane by lane
pub digests_are : (f : List ℕ → List ℕ) (state ms : List (List ℕ)) → length ms ≡ 4
    → ((l : ℕ) → l < 4 → lane l state ≡ final_hash initial_hash_256 (f (get_or ms l [])))
    → (digest_bytes (lane 0 state) 8 ∷ digest_bytes (lane 1 state) 8
    ∷ digest_bytes (lane 2 state) 8 ∷ digest_bytes (lane 3 state) 8 ∷ [])
    ≡ map (λ m. sha256 (f m)) ms
unfolding sha256
digests_are f state ms long hashed =
    (λ i. digest_bytes (hashed 0 (omega arith) i) 8 ∷ digest_bytes (hashed 1 (omega arith) i) 8
    ∷ digest_bytes (hashed 2 (omega arith) i) 8 ∷ digest_bytes (hashed 3 (omega arith) i) 8 ∷ [])
    ∙ four_items (λ m. sha256 (f m)) ms long
